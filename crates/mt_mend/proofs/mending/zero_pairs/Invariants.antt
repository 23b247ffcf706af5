use Rattle.std.proofs.Common.{◌≡◌, replicate}
use Rattle.mt_mend.proofs.mending.zero_pairs.Given as goal

abbrev pub invariant-loop : goal.invariant-loop
invariant-loop l = l.pairs.items ≡ replicate l.counter (0, 0)
