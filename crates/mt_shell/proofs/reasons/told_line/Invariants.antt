use Rattle.std.proofs.Common.{◌≡◌, ◌≤◌, ◌+◌, ◌*◌, ◌++◌, codes, flat_map, length, take}
use Rattle.mt_shell.specs.Reasons.{shown_byte}
use Rattle.mt_shell.proofs.reasons.told_line.Given as goal

abbrev pub invariant-bytes : goal.invariant-bytes
invariant-bytes l = record {
  text : l.line.items ≡ (l.name ++ codes ": ") ++ flat_map shown_byte (take l.byte-index l.reason);
  short : length l.line.items ≤ 34 + 2 * l.byte-index;
}
