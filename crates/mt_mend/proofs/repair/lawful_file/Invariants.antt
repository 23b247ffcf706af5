use Rattle.std.proofs.Common.{◌≡◌, take}
use Rattle.std.specs.Prelude.{fold}
use Rattle.mt_mend.specs.Nearest.{repaired_at}
use Rattle.mt_mend.proofs.repair.lawful_file.Given as goal

abbrev pub invariant-loop-fault : goal.invariant-loop-fault
invariant-loop-fault l = l.file ≡ fold repaired_at l.f (take l.fault-index l.fault-items)
