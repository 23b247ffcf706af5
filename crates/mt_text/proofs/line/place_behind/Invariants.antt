use Rattle.std.proofs.Common.{◌≡◌, ◌≤◌, ◌+◌, drop}
use Rattle.mt_text.specs.Text.{place_behind}
use Rattle.mt_text.proofs.line.place_behind.Given as goal

abbrev pub invariant-loop-byte : goal.invariant-loop-byte
invariant-loop-byte l = record {
  lines : l.place.line ≤ l.fn.start.line + l.byte-index;
  columns : l.place.column ≤ l.fn.start.column + l.byte-index;
  leads : place_behind l.place (drop l.byte-index l.bytes) ≡ place_behind l.fn.start l.bytes;
}
