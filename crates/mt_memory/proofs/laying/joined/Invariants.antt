use Rattle.std.proofs.Common.{◌≡◌, ◌≤◌, ◌++◌, drop, length}
use Rattle.mt_memory.specs.Laying.{joined_from}
use Rattle.mt_memory.proofs.laying.joined.Given as goal

abbrev pub invariant-nexts : goal.invariant-nexts
invariant-nexts l = record {
  rest : l.list.items ++ joined_from l.range (drop l.next-index l.rest) ≡ joined_from l.initial.range l.rest;
  few : length l.list.items ≤ l.next-index;
}
