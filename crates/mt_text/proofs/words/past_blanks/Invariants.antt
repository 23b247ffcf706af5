use Rattle.std.proofs.Common.{◌≡◌, ◌≤◌, ◌+◌, ◌-◌, drop, length}
use Rattle.std.specs.List.{position_or_len}
use Rattle.mt_text.specs.Text.{is_word_byte}
use Rattle.mt_text.proofs.words.past_blanks.Given as goal

abbrev pub invariant-blanks : goal.invariant-blanks
invariant-blanks l = record {
  within : l.at ≤ length l.text;
  leads : l.at + position_or_len is_word_byte (drop l.at l.text) ≡ l.from + position_or_len is_word_byte (drop l.from l.text);
}

abbrev pub decreases-blanks : goal.decreases-blanks
decreases-blanks l = length l.text - l.at
