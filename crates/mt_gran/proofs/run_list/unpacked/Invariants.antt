use Rattle.std.proofs.Common.{◌≡◌, length, take}
use Rattle.mt_gran.proofs.run_list.unpacked.Given as goal

abbrev pub invariant-loop-i : goal.invariant-loop-i
invariant-loop-i g l = (take l.i l.places ≡ take l.i l.runs) × (length l.places ≡ g.row.N)
