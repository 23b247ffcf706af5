use Rattle.std.proofs.Common.{◌≡◌, ℕ, ◌<◌, ◌≤◌, get_or, length}
use Rattle.mt_private.specs.Left.{word_beside, word_by_word}
use Rattle.mt_private.proofs.joint.put_words.Given as goal

abbrev pub invariant-loop-i : goal.invariant-loop-i
invariant-loop-i l = record {
  windows : l.ram.windows ≡ l.initial.ram.windows;
  len : length l.ram.words ≡ length l.initial.ram.words;
  done : (j : ℕ) → j < l.i → get_or l.ram.words j 0 ≡ get_or (word_by_word (word_beside l.joint) l.own.words l.initial.ram.words) j 0;
  rest : (j : ℕ) → l.i ≤ j → get_or l.ram.words j 0 ≡ get_or l.initial.ram.words j 0;
}
