use Rattle.std.proofs.Common.{◌≡◌, ◌≤◌, ◌*◌, ◌++◌, drop, length}
use Rattle.mt_memory.specs.MapText.{map_text}
use Rattle.mt_memory.proofs.own_text.map_text.Given as goal

abbrev pub invariant-lines : goal.invariant-lines
invariant-lines l = record {
  rest : l.text.items ++ map_text (drop l.range-index l.ranges) ≡ map_text l.ranges;
  few : length l.text.items ≤ 48 * l.range-index;
}
