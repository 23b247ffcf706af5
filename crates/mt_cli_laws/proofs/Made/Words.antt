-- The words of a line, each with a blank behind it.
use Rattle.std.proofs.Common.{◌≡◌, ◌∙◌, ap, refl, arith, ℕ, ◌+◌, ◌≤◌, true, false, not, Bool, List, [], ◌∷◌, ◌++◌, length}
use Rattle.std.specs.List.{list_all}
use Rattle.std.proofs.lemmas.Bool.{and_parts}
use Rattle.mt_text.specs.Text.{is_blank, is_word_byte, lengthened, words_from}

no_blank : (byte : ℕ) → is_word_byte byte ≡ true → is_blank byte ≡ false
no_blank byte is = by (is_blank byte) is
  where
    by : (blank : Bool) → not blank ≡ true → blank ≡ false
    by true is = cc is
    by false is = refl

-- a word and a blank in front of others
pub word_first : (offset : ℕ) (word rest : List ℕ) → 1 ≤ length word → list_all is_word_byte word ≡ true → words_from offset (word ++ 32 ∷ rest) ≡ (offset, word) ∷ words_from (offset + length word + 1) rest
word_first offset [] rest some all = absurd (omega (arith, some))
word_first offset (byte ∷ []) rest some all = rw (no_blank byte (and_parts (is_word_byte byte) true all).0) refl
word_first offset (byte ∷ next ∷ bytes) rest some all =
    let parts = and_parts (is_word_byte byte) (list_all is_word_byte (next ∷ bytes)) all in
    let goes = (and_parts (is_word_byte next) (list_all is_word_byte bytes) parts.1).0 in
    let place : offset + 1 + length (next ∷ bytes) + 1 ≡ offset + length (byte ∷ next ∷ bytes) + 1 = omega arith in
    rw (no_blank byte parts.0, goes)
    (ap (lengthened offset byte) (word_first (offset + 1) (next ∷ bytes) rest (omega arith) parts.1)
    ∙ ap (λ n. let word : ℕ × List ℕ = (offset, byte ∷ next ∷ bytes) in word ∷ words_from n rest) place)

pub word_last : (offset : ℕ) (word : List ℕ) → 1 ≤ length word → list_all is_word_byte word ≡ true → words_from offset word ≡ (offset, word) ∷ []
word_last offset [] some all = absurd (omega (arith, some))
word_last offset (byte ∷ []) some all = rw (no_blank byte (and_parts (is_word_byte byte) true all).0) refl
word_last offset (byte ∷ next ∷ bytes) some all =
    let parts = and_parts (is_word_byte byte) (list_all is_word_byte (next ∷ bytes)) all in
    let goes = (and_parts (is_word_byte next) (list_all is_word_byte bytes) parts.1).0 in
    rw (no_blank byte parts.0, goes) (ap (lengthened offset byte) (word_last (offset + 1) (next ∷ bytes) (omega arith) parts.1))
