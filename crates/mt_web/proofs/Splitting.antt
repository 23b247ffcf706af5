-- A text of words, byte by byte.
use Rattle.std.proofs.Common.{◌≡◌, ℕ, Bool, true, false, List, [], ◌∷◌, ◌++◌, map, refl, subst}
use Rattle.std.proofs.lemmas.List.{map-append}
use Rattle.std.specs.Str.{IsUtf8, is_utf8}
use Rattle.std.proofs.lemmas.Str.{IsUtf8-from_is_utf8, is_utf8-from_IsUtf8}
use Rattle.mt_web.specs.Words.{words_from}

word_ends : (words : List (List ℕ)) (word more : List ℕ) (all : List (List ℕ)) → IsUtf8 word → words_from words word (0 ∷ more) ≡ all → words_from (words ++ word ∷ []) [] more ≡ all
word_ends words word more all text is = rw (is_utf8-from_IsUtf8 word text) at is

no_text : (words : List (List ℕ)) (word more : List ℕ) (all : List (List ℕ)) → (IsUtf8 word → ⊥) → words_from words word (0 ∷ more) ≡ all → [] ≡ all
no_text words word more all not is = by (is_utf8 word) refl is
  where
    by : (b : Bool) → is_utf8 word ≡ b → words_from words word (0 ∷ more) ≡ all → [] ≡ all
    by true text is = absurd (not (IsUtf8-from_is_utf8 word text))
    by false other is = rw other at is

-- a zero byte ends a word
pub next_word : {S : Type 0} (f : S → List ℕ) (words new : List S) (next : S) (word whole slice rest more cleared : List ℕ) (byte : ℕ) (all : List (List ℕ))
    → rest ≡ byte ∷ more → byte ≡ 0 → slice ≡ word → whole ≡ slice → IsUtf8 slice → f next ≡ whole → new ≡ words ++ next ∷ [] → cleared ≡ []
    → words_from (map f words) word rest ≡ all → words_from (map f new) cleared more ≡ all
next_word f words new next word whole slice rest more cleared byte all first ends same read text next_is new_is empty is =
    let begun : words_from (map f words) word (0 ∷ more) ≡ all = rw (first, ends) at is in
    rw (new_is, empty, map-append f words (next ∷ []), next_is, read, same) (word_ends (map f words) word more all (subst IsUtf8 same text) begun)

-- a word that isn't UTF-8 leaves no words
pub no_words : (words : List (List ℕ)) (word slice rest more : List ℕ) (byte : ℕ) (all : List (List ℕ)) → rest ≡ byte ∷ more → byte ≡ 0 → slice ≡ word → (IsUtf8 slice → ⊥)
    → words_from words word rest ≡ all → [] ≡ all
no_words words word slice rest more byte all first ends same not is =
    let begun : words_from words word (0 ∷ more) ≡ all = rw (first, ends) at is in
    no_text words word more all (λ text. not (rw same text)) begun
