use Rattle.std.proofs.Common.{◌≡◌, false, take}
use Rattle.mt_tlb.specs.Entries.{is_mapped}
use Rattle.mt_list_machine.proofs.controls.is_mapped.Given as goal

abbrev pub invariant-loop-m : goal.invariant-loop-m
invariant-loop-m l = is_mapped l.vpage (take l.m-index l.maps) ≡ false
