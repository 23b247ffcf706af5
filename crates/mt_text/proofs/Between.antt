-- Words are what stands between blanks.
use Rattle.std.proofs.Common.{◌≡◌, ◌∙◌, ◌+◌, ℕ, Bool, true, false, List, [], ◌∷◌, map, refl, sym, ap, inl, inr}
use Rattle.std.specs.List.{filter, slice_split, onto_first}
use Rattle.std.proofs.lemmas.Bool.{cases_Bool}
use Rattle.mt_text.specs.Text.{is_blank, has_bytes, lengthened, words_from}

abbrev pub filled : List (List ℕ) → List (List ℕ)
filled parts = filter has_bytes parts

abbrev pub texts : List (ℕ × List ℕ) → List (List ℕ)
texts words = map (λ word. word.1) words

-- a word that goes on with a byte, and is one byte longer
longer : (at x y : ℕ) (parts : List (List ℕ)) (words : List (ℕ × List ℕ)) → texts words ≡ filled (onto_first y parts) → texts (lengthened at x words) ≡ filled (onto_first x (onto_first y parts))
longer at x y [] [] same = cc same
longer at x y [] (w ∷ ws) same =
    let word : w.1 ≡ y ∷ [] = cc same in
    let rest : texts ws ≡ [] = cc same in
    rw (word, rest) refl
longer at x y (part ∷ parts) [] same = cc same
longer at x y (part ∷ parts) (w ∷ ws) same =
    let word : w.1 ≡ y ∷ part = cc same in
    let rest : texts ws ≡ filled parts = cc same in
    rw (word, rest) refl

pub words_between : (at : ℕ) (line : List ℕ) → texts (words_from at line) ≡ filled (slice_split is_blank line)
words_between at [] = refl
words_between at (x ∷ []) = elim (cases_Bool (is_blank x)) [
  | inl hit ↦ rw hit refl
  | inr miss ↦ rw miss refl
]
words_between at (x ∷ y ∷ ys) = by (is_blank x) refl (is_blank y) refl (words_between (at + 1) (y ∷ ys))
  where
    by : (first : Bool) → is_blank x ≡ first → (second : Bool) → is_blank y ≡ second → texts (words_from (at + 1) (y ∷ ys)) ≡ filled (slice_split is_blank (y ∷ ys)) → texts (words_from at (x ∷ y ∷ ys)) ≡ filled (slice_split is_blank (x ∷ y ∷ ys))
    by true hit second is later = rw hit later
    by false miss true ends later = rw (miss, ends) (ap (λ ws. (x ∷ []) ∷ ws) (rw ends at later))
    by false miss false more later =
        let parts : slice_split is_blank (y ∷ ys) ≡ onto_first y (slice_split is_blank ys) = rw more refl in
        let here : words_from at (x ∷ y ∷ ys) ≡ lengthened at x (words_from (at + 1) (y ∷ ys)) = rw (miss, more) refl in
        let whole : slice_split is_blank (x ∷ y ∷ ys) ≡ onto_first x (onto_first y (slice_split is_blank ys)) = rw (miss, more) refl in
        ap texts here ∙ longer at x y (slice_split is_blank ys) (words_from (at + 1) (y ∷ ys)) (later ∙ ap filled parts) ∙ ap filled (sym whole)
