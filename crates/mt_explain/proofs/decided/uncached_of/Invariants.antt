use Rattle.std.proofs.Common.{◌≡◌, ◌≤◌, take, length}
use Rattle.mt_explain.specs.Deciders.{uncached_of}
use Rattle.mt_explain.proofs.decided.uncached_of.Given as goal

abbrev pub invariant-loop-n : goal.invariant-loop-n
invariant-loop-n l = record {
  found : l.numbers.items ≡ uncached_of l.f (take l.n-index l.pairs);
  few : length l.numbers.items ≤ l.n-index;
}
