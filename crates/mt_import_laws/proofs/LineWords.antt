-- The first words of a line that is put together from them.
use Rattle.std.proofs.Common.{◌≡◌, ◌∙◌, ◌+◌, ◌≤◌, ◌==◌, ◌&&◌, not, ℕ, zero, suc, Bool, true, false, List, [], ◌∷◌, ◌++◌, length, replicate, refl, ap, arith, length-append}
use Rattle.std.specs.List.{AllByRecursion, list_all}
use Rattle.std.proofs.lemmas.Bool.{and_parts}
use Rattle.hex.specs.Hex.{is_hex_digit}
use Rattle.mt_text.specs.Text.{goes_on, is_blank, is_word_byte, lengthened, words_from, words_of}
use Rattle.mt_text.proofs.Plain.{is_plain, plain_content, digits_plain, digits_word}

-- a word that no byte ends
abbrev pub IsWord : List ℕ → Type 0
IsWord word = (1 ≤ length word) × (list_all is_word_byte word ≡ true) × (list_all is_plain word ≡ true)

-- words, each behind so many blanks, and what follows them
abbrev pub line_with : List (ℕ × List ℕ) → List ℕ → List ℕ
line_with [] rest = rest
line_with (piece ∷ pieces) rest = replicate piece.0 32 ++ (piece.1 ++ line_with pieces rest)

-- the words with their offsets, and those of what follows
abbrev pub placed : ℕ → List (ℕ × List ℕ) → List ℕ → List (ℕ × List ℕ)
placed offset [] rest = words_from offset rest
placed offset (piece ∷ pieces) rest = (offset + piece.0, piece.1) ∷ placed (offset + piece.0 + length piece.1) pieces rest

abbrev pub AreWords : List (ℕ × List ℕ) → Type 0
AreWords = AllByRecursion (λ piece. IsWord piece.1)

-- a blank in front of each
abbrev pub are_apart : List (ℕ × List ℕ) → Bool
are_apart [] = true
are_apart (piece ∷ pieces) = not (piece.0 == 0) && are_apart pieces

not_true : (test : Bool) → not test ≡ true → test ≡ false
not_true true is = cc is
not_true false is = refl

one_word : (offset : ℕ) (word rest : List ℕ) → 1 ≤ length word → list_all is_word_byte word ≡ true → goes_on rest ≡ false → words_from offset (word ++ rest) ≡ (offset, word) ∷ words_from (offset + length word) rest
one_word offset [] rest some all ends = absurd (omega arith)
one_word offset (byte ∷ []) rest some all ends =
    let parts = and_parts (is_word_byte byte) true all in
    rw (not_true (is_blank byte) parts.0, ends) refl
one_word offset (byte ∷ next ∷ word) rest some all ends =
    let parts = and_parts (is_word_byte byte) (list_all is_word_byte (next ∷ word)) all in
    let more = and_parts (is_word_byte next) (list_all is_word_byte word) parts.1 in
    let later = one_word (offset + 1) (next ∷ word) rest (omega arith) parts.1 ends in
    let place : offset + 1 + length (next ∷ word) ≡ offset + length (byte ∷ next ∷ word) = omega arith in
    rw (not_true (is_blank byte) parts.0, more.0) (ap (lengthened offset byte) later ∙ ap (λ k. let w : ℕ × List ℕ = (offset, byte ∷ next ∷ word) in w ∷ words_from k rest) place)

after_blanks : (count offset : ℕ) (rest : List ℕ) → words_from offset (replicate count 32 ++ rest) ≡ words_from (offset + count) rest
after_blanks zero offset rest = let e : offset ≡ offset + 0 = omega arith in ap (λ k. words_from k rest) e
after_blanks (suc count) offset rest = let e : offset + 1 + count ≡ offset + suc count = omega arith in after_blanks count (offset + 1) rest ∙ ap (λ k. words_from k rest) e

module _ (rest : List ℕ) (ends : goes_on rest ≡ false) where
  ends_there : (pieces : List (ℕ × List ℕ)) → are_apart pieces ≡ true → goes_on (line_with pieces rest) ≡ false
  ends_there [] apart = ends
  ends_there (piece ∷ pieces) apart = by piece.0 (and_parts (not (piece.0 == 0)) (are_apart pieces) apart).0
    where
      by : (count : ℕ) → not (count == 0) ≡ true → goes_on (replicate count 32 ++ (piece.1 ++ line_with pieces rest)) ≡ false
      by zero none = cc none
      by (suc count) some = refl

  pieces_found : (offset : ℕ) (pieces : List (ℕ × List ℕ)) → AreWords pieces → are_apart pieces ≡ true → words_from offset (line_with pieces rest) ≡ placed offset pieces rest
  pieces_found offset [] are apart = refl
  pieces_found offset (piece ∷ pieces) are apart =
      let parts = and_parts (not (piece.0 == 0)) (are_apart pieces) apart in
      after_blanks piece.0 offset (piece.1 ++ line_with pieces rest)
      ∙ one_word (offset + piece.0) piece.1 (line_with pieces rest) are.0.0 are.0.1 (ends_there pieces parts.1)
      ∙ ap (λ ws. let w : ℕ × List ℕ = (offset + piece.0, piece.1) in w ∷ ws) (pieces_found (offset + piece.0 + length piece.1) pieces are.1 parts.1)

pub all_append : (p : ℕ → Bool) (xs ys : List ℕ) → list_all p xs ≡ true → list_all p ys ≡ true → list_all p (xs ++ ys) ≡ true
all_append p [] ys all later = later
all_append p (x ∷ xs) ys all later = let parts = and_parts (p x) (list_all p xs) all in rw parts.0 (all_append p xs ys parts.1 later)

blanks_plain : (count : ℕ) → list_all is_plain (replicate count 32) ≡ true
blanks_plain zero = refl
blanks_plain (suc count) = blanks_plain count

pub pieces_plain : (pieces : List (ℕ × List ℕ)) (rest : List ℕ) → AreWords pieces → list_all is_plain rest ≡ true → list_all is_plain (line_with pieces rest) ≡ true
pieces_plain [] rest are plain = plain
pieces_plain (piece ∷ pieces) rest are plain =
    all_append is_plain (replicate piece.0 32) (piece.1 ++ line_with pieces rest) (blanks_plain piece.0)
    (all_append is_plain piece.1 (line_with pieces rest) are.0.2 (pieces_plain pieces rest are.1 plain))

-- the words of the line, of which the first may stand at its front
pub words_of_pieces : (first : ℕ × List ℕ) (pieces : List (ℕ × List ℕ)) (rest : List ℕ) → AreWords (first ∷ pieces) → are_apart pieces ≡ true → goes_on rest ≡ false → list_all is_plain rest ≡ true
    → words_of (line_with (first ∷ pieces) rest) ≡ placed 0 (first ∷ pieces) rest
words_of_pieces first pieces rest are apart ends plain =
    ap (words_from 0) (plain_content (line_with (first ∷ pieces) rest) (pieces_plain (first ∷ pieces) rest are plain))
    ∙ after_blanks first.0 0 (first.1 ++ line_with pieces rest)
    ∙ one_word (0 + first.0) first.1 (line_with pieces rest) are.0.0 are.0.1 (ends_there rest ends pieces apart)
    ∙ ap (λ ws. let w : ℕ × List ℕ = (0 + first.0, first.1) in w ∷ ws) (pieces_found rest ends (0 + first.0 + length first.1) pieces are.1 apart)

-- how long it is
abbrev pub size_of : List (ℕ × List ℕ) → ℕ
size_of [] = 0
size_of (piece ∷ pieces) = piece.0 + length piece.1 + size_of pieces

blanks_long : (count : ℕ) → length (replicate {A = ℕ} count 32) ≡ count
blanks_long zero = refl
blanks_long (suc count) = let later = blanks_long count in omega (arith, later)

pub length_of_pieces : (pieces : List (ℕ × List ℕ)) (rest : List ℕ) → length (line_with pieces rest) ≡ size_of pieces + length rest
length_of_pieces [] rest = omega arith
length_of_pieces (piece ∷ pieces) rest =
    let later = length_of_pieces pieces rest in
    let one = length-append (replicate piece.0 32) (piece.1 ++ line_with pieces rest) in
    let two = length-append piece.1 (line_with pieces rest) in
    let blanks = blanks_long piece.0 in
    omega (arith, later, one, two, blanks)

-- bytes of words behind a word are a word with it
pub word_append : (xs ys : List ℕ) → IsWord xs → list_all is_word_byte ys ≡ true → list_all is_plain ys ≡ true → IsWord (xs ++ ys)
word_append xs ys is words plain =
    let size = length-append xs ys in
    let some : 1 ≤ length xs = is.0 in
    (omega (arith, size, some), all_append is_word_byte xs ys is.1 words, all_append is_plain xs ys is.2 plain)

pub digits_are_word : (digits : List ℕ) → 1 ≤ length digits → list_all is_hex_digit digits ≡ true → IsWord digits
digits_are_word digits some all = (some, digits_word digits all, digits_plain digits all)
