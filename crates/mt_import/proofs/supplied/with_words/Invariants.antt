use Rattle.std.proofs.Common.{◌≡◌, ◌≤◌, ◌-◌, drop, length, map, Some}
use Rattle.std.specs.Prelude.{string_bytes}
use Rattle.mt_import.specs.Supplied.{nothing_supplied, with_words}
use Rattle.mt_import.proofs.supplied.with_words.Given as goal

abbrev pub invariant-words : goal.invariant-words
invariant-words l = record {
  within : l.i ≤ length l.words;
  rest : with_words (Some l.supplied) (drop l.i (map string_bytes l.words)) ≡ with_words (Some nothing_supplied) (map string_bytes l.words);
  size : length l.supplied.registers ≤ l.i;
}

abbrev pub decreases-words : goal.decreases-words
decreases-words l = length l.words - l.i
