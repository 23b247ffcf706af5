use Rattle.std.proofs.Common.{drop}
use Rattle.mt_memory_kinds.specs.Ranges.{AreAscending}
use Rattle.mt_explain.specs.Memory.{AreInOrder, next_of}
use Rattle.mt_explain.proofs.mapped.are_in_order.Given as goal

abbrev pub invariant-loop-range : goal.invariant-loop-range
invariant-loop-range l = record {
  rest : AreInOrder l.ranges → AreAscending (next_of l.last) (drop l.range-index l.ranges);
  all : AreAscending (next_of l.last) (drop l.range-index l.ranges) → AreInOrder l.ranges;
}
