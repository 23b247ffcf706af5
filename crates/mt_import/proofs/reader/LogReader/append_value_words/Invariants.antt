use Rattle.std.proofs.Common.{◌≡◌, ◌≤◌, ◌+◌, ◌*◌, ◌++◌, length, take}
use Rattle.mt_import.specs.Reader.{value_words_in}
use Rattle.mt_import.proofs.reader.LogReader.append_value_words.Given as goal

abbrev pub invariant-registers : goal.invariant-registers
invariant-registers l = record {
  text : l.text.items ≡ l.initial.text.items ++ value_words_in l.supplied l.self (take l.i l.numbers);
  short : length l.text.items ≤ 2068 + 10 * l.i;
}
