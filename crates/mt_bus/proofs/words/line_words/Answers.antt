use Rattle.std.proofs.Common.{◌≡◌, ◌∙◌, ◌+◌, ◌<◌, ap, arith, ℕ, [], ◌∷◌}
use Rattle.std.specs.Prelude.{slice_index}
use Rattle.mt_machine.specs.Memory.{word_address, word_at}
use Rattle.mt_bus.proofs.Places.{read_word}
use Rattle.mt_bus.proofs.words.line_words.Goals as goal

pub returns-in-Some : goal.returns-in-Some
returns-in-Some c =
    λ j. at 0 _ (omega arith) first j ∷ at 1 _ (omega arith) c.word-in-Some.ensures j ∷ at 2 _ (omega arith) c.word-in-Some-2.ensures j ∷ at 3 _ (omega arith) c.word-in-Some-3.ensures j
    ∷ at 4 _ (omega arith) c.word-in-Some-4.ensures j ∷ at 5 _ (omega arith) c.word-in-Some-5.ensures j ∷ at 6 _ (omega arith) c.word-in-Some-6.ensures j ∷ at 7 _ (omega arith) c.word-in-Some-7.ensures j ∷ []
  where
    first : c.word.result ≡ slice_index c.args.ram.now.words (c.in-Some.i + 0)
    first = c.word.ensures ∙ ap (slice_index c.args.ram.now.words) (omega arith)

    at : (word v : ℕ) → word < 8 → v ≡ slice_index c.args.ram.now.words (c.in-Some.i + word) → v ≡ word_at c.args.ram.now (word_address c.args.number word)
    at word v small is = read_word c.args.ram.now c.args.number word c.in-Some.i v (c.in-Some.ensures.places word small) is
