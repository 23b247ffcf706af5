use Rattle.std.proofs.Common.{◌≡◌, ◌∷◌, [], ℕ}
use Rattle.mt_machine.specs.Memory.{word_address, word_at}
use Rattle.mt_list_machine.specs.Parts.{memory}
use Rattle.mt_list_machine.proofs.Places.{no_word}
use Rattle.mt_list_machine.proofs.ram.line_words.Goals as goal

pub returns-then-number-ge-PHYSICAL_LINES : goal.returns-then-number-ge-PHYSICAL_LINES
returns-then-number-ge-PHYSICAL_LINES c = λ j. z 0 j ∷ z 1 j ∷ z 2 j ∷ z 3 j ∷ z 4 j ∷ z 5 j ∷ z 6 j ∷ z 7 j ∷ []
  where
    z : (word : ℕ) → 0 ≡ word_at (memory c.args.layout.now c.args.words.now) (word_address c.args.number word)
    z word = no_word c.args.layout.now c.args.words.now c.args.number word c.words.ensures.memory c.if-number-ge-PHYSICAL_LINES.true
