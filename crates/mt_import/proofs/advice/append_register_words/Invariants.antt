use Rattle.std.proofs.Common.{◌≡◌, ◌≤◌, ◌+◌, ◌*◌, ◌++◌, length, take}
use Rattle.mt_import.specs.Outcome.{register_words}
use Rattle.mt_import.proofs.advice.append_register_words.Given as goal

abbrev pub invariant-registers : goal.invariant-registers
invariant-registers l = record {
  text : l.text.items ≡ l.initial.text.items ++ register_words (take l.i l.registers);
  short : length l.text.items ≤ 128 + 21 * l.i;
}
