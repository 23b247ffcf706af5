use Rattle.std.proofs.Common.{◌≡◌, ◌≤◌, ◌+◌, ◌++◌, drop, length}
use Rattle.std.specs.List.{filter_map}
use Rattle.mt_memory.specs.Laying.{part_of}
use Rattle.mt_memory.proofs.laying.add_parts.Given as goal

abbrev pub invariant-pieces : goal.invariant-pieces
invariant-pieces l = record {
  rest : l.list.items ++ filter_map (part_of l.is_above l.range) (drop l.piece-index l.pieces) ≡ l.initial.list.items ++ filter_map (part_of l.is_above l.range) l.pieces;
  few : length l.list.items ≤ length l.initial.list.items + l.piece-index;
}
