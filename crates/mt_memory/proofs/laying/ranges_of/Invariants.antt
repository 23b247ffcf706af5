use Rattle.std.proofs.Common.{◌≡◌, ◌≤◌, ◌++◌, drop, length}
use Rattle.mt_memory.specs.Laying.{ranges_of}
use Rattle.mt_memory.proofs.laying.ranges_of.Given as goal

abbrev pub invariant-pieces : goal.invariant-pieces
invariant-pieces l = record {
  rest : l.list.items ++ ranges_of (drop l.piece-index l.pieces) ≡ ranges_of l.pieces;
  few : length l.list.items ≤ l.piece-index;
}
