use Rattle.std.proofs.Common.{◌≡◌, ◌≤◌, ◌+◌, ◌-◌, drop, length}
use Rattle.std.specs.List.{position_or_len}
use Rattle.mt_text.specs.Text.{ends_word}
use Rattle.mt_text.proofs.words.past_word.Given as goal

abbrev pub invariant-word : goal.invariant-word
invariant-word l = record {
  within : l.at ≤ length l.text;
  leads : l.at + position_or_len ends_word (drop l.at l.text) ≡ l.from + position_or_len ends_word (drop l.from l.text);
}

abbrev pub decreases-word : goal.decreases-word
decreases-word l = length l.text - l.at
