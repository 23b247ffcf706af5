use Rattle.std.proofs.Common.{◌≡◌, ◌≤◌, ◌++◌, ◌-◌, length, map, take, drop}
use Rattle.std.specs.List.{AllByRecursion}
use Rattle.mt_text.specs.Text.{before_comment, words_from}
use Rattle.mt_text.specs.Words.{AreBounds, word_between}
use Rattle.mt_text.proofs.first.find_bounds.Given as goal

abbrev pub invariant-words : goal.invariant-words
invariant-words l = record {
  within : l.at ≤ length l.text;
  size : length l.bounds.items ≡ l.counter;
  inside : AllByRecursion (AreBounds l.text) l.bounds.items;
  leads : map (word_between l.text) l.bounds.items ++ take (7 - l.counter) (words_from l.at (before_comment (drop l.at l.text))) ≡ take 7 (words_from 0 (before_comment l.text));
}
