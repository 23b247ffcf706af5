use Rattle.std.proofs.Common.{◌≡◌, length}
use Rattle.mt_mend.proofs.settled.kept_pairs.Given as goal

abbrev pub invariant-loop-place : goal.invariant-loop-place
invariant-loop-place l = length l.pairs.items ≡ l.place
