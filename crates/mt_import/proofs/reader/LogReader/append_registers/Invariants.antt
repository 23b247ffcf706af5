use Rattle.std.proofs.Common.{◌≡◌, ◌≤◌, ◌+◌, ◌*◌, ◌++◌, length, take}
use Rattle.mt_import.specs.Reader.{missing_lines_in}
use Rattle.mt_import.proofs.reader.LogReader.append_registers.Given as goal

abbrev pub invariant-registers : goal.invariant-registers
invariant-registers l = record {
  text : l.text.items ≡ l.initial.text.items ++ missing_lines_in l.supplied l.self (take l.i l.numbers);
  short : length l.text.items ≤ 256 + 104 * l.i;
}
