use Rattle.std.proofs.Common.{◌≡◌, ◌≤◌, length}
use Rattle.mt_ranges.specs.Match.{matches_pair}
use Rattle.mt_regs.specs.RegisterFile.{pair_at}
use Rattle.mt_explain.specs.Pairs.{numbers_below}
use Rattle.mt_explain.proofs.pairs.pairs_in.Given as goal

abbrev pub invariant-loop-n : goal.invariant-loop-n
invariant-loop-n l = record {
  found : l.numbers.items ≡ numbers_below (λ n. matches_pair l.width (pair_at l.pairs n) l.page) l.n;
  few : length l.numbers.items ≤ l.n;
}
