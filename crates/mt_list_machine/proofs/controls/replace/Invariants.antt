use Rattle.std.proofs.Common.{◌≡◌, ◌++◌, drop, map, take}
use Rattle.std.specs.Prelude.{if◌then◌else◌}
use Rattle.mt_tlb.specs.Entries.{maps_page}
use Rattle.mt_tlb.specs.declared.mapping.Mapping.{Mapping}
use Rattle.mt_list_machine.proofs.controls.replace.Given as goal

abbrev pub invariant-loop-i : goal.invariant-loop-i
invariant-loop-i l = take l.i l.maps ++ map (λ (m : Mapping). if maps_page l.x.vpage m then l.x else m) (drop l.i l.maps) ≡ map (λ (m : Mapping). if maps_page l.x.vpage m then l.x else m) l.fn.maps
