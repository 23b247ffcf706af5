use Rattle.std.proofs.Common.{◌≡◌, ◌≤◌, ◌+◌, ◌*◌, ◌++◌, length, take}
use Rattle.mt_dump.specs.Canon.{canon_lines, ended}
use Rattle.mt_dump.proofs.texts.append_canon.Given as goal

abbrev pub invariant-lines : goal.invariant-lines
invariant-lines l = record {
  text : l.text.items ≡ l.initial.text.items ++ ended (take l.i (canon_lines l.d));
  short : length l.text.items ≤ 224 + 24 * l.i;
}
