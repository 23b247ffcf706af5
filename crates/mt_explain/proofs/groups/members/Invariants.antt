use Rattle.std.proofs.Common.{◌≡◌, ◌≤◌, length}
use Rattle.std.specs.Prelude.{◌==◌, slice_index}
use Rattle.mt_explain.specs.Pairs.{numbers_below}
use Rattle.mt_explain.proofs.groups.members.Given as goal

abbrev pub invariant-loop-k : goal.invariant-loop-k
invariant-loop-k l = record {
  found : l.numbers.items ≡ numbers_below (λ j. slice_index l.firsts j == l.first) l.k;
  few : length l.numbers.items ≤ l.k;
}
