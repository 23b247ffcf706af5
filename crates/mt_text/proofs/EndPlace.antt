-- The place after the last byte, counted byte by byte.
use Rattle.std.proofs.Common.{◌≡◌, ◌∙◌, ◌+◌, ℕ, Bool, true, false, List, [], ◌∷◌, ◌++◌, length, refl, sym, ap, inl, inr, arith}
use Rattle.std.specs.Prelude.{count_by, if◌then◌else◌}
use Rattle.std.specs.List.{list_any}
use Rattle.std.proofs.lemmas.Bool.{cases_Bool}
use Rattle.std.proofs.lemmas.List.Sums.{sum_by-cons}
use Rattle.mt_text.specs.Text.{is_line_end, after_line_ends, end_of, place_behind}
use Rattle.mt_text.specs.declared.place.Place.{Place}

place_is : {a b c d : ℕ} → a ≡ c → b ≡ d → ◌≡◌ {A = Place} (record { line = a; column = b }) (record { line = c; column = d })
place_is p q = cc

none_left : (text : List ℕ) → list_any is_line_end text ≡ false → after_line_ends text ≡ text
none_left [] none = refl
none_left (byte ∷ bytes) none = rw none refl

counted : (byte : ℕ) (bytes : List ℕ) → count_by is_line_end (byte ∷ bytes) ≡ (if is_line_end byte then 1 else 0) + count_by is_line_end bytes
counted byte bytes = sum_by-cons (λ b. if is_line_end b then 1 else 0) byte bytes

place_behind-counts : (line column : ℕ) (text : List ℕ) → place_behind (record { line = line; column = column }) text
    ≡ record { line = line + count_by is_line_end text; column = if list_any is_line_end text then length (after_line_ends text) + 1 else column + length text }
place_behind-counts line column [] = place_is (omega arith) (omega arith)
place_behind-counts line column (byte ∷ bytes) = by (is_line_end byte) refl (list_any is_line_end bytes) refl (place_behind-counts (line + 1) 1 bytes) (place_behind-counts line (column + 1) bytes)
  where
    by : (ends : Bool) → is_line_end byte ≡ ends → (more : Bool) → list_any is_line_end bytes ≡ more
        → place_behind (record { line = line + 1; column = 1 }) bytes ≡ record { line = line + 1 + count_by is_line_end bytes; column = if list_any is_line_end bytes then length (after_line_ends bytes) + 1 else 1 + length bytes }
        → place_behind (record { line = line; column = column + 1 }) bytes ≡ record { line = line + count_by is_line_end bytes; column = if list_any is_line_end bytes then length (after_line_ends bytes) + 1 else column + 1 + length bytes }
        → place_behind (record { line = line; column = column }) (byte ∷ bytes)
        ≡ record { line = line + count_by is_line_end (byte ∷ bytes); column = if list_any is_line_end (byte ∷ bytes) then length (after_line_ends (byte ∷ bytes)) + 1 else column + length (byte ∷ bytes) }
    by true is true more below beside =
        let count : count_by is_line_end (byte ∷ bytes) ≡ 1 + count_by is_line_end bytes = counted byte bytes ∙ rw is refl in
        let first : place_behind (record { line = line; column = column }) (byte ∷ bytes) ≡ place_behind (record { line = line + 1; column = 1 }) bytes = rw is refl in
        first ∙ rw more at below ∙ place_is (omega (arith, count)) (rw is refl)
    by true is false none below beside =
        let count : count_by is_line_end (byte ∷ bytes) ≡ 1 + count_by is_line_end bytes = counted byte bytes ∙ rw is refl in
        let first : place_behind (record { line = line; column = column }) (byte ∷ bytes) ≡ place_behind (record { line = line + 1; column = 1 }) bytes = rw is refl in
        first ∙ rw none at below ∙ place_is (omega (arith, count)) (rw (is, none_left bytes none) (omega arith))
    by false is true more below beside =
        let count : count_by is_line_end (byte ∷ bytes) ≡ 0 + count_by is_line_end bytes = counted byte bytes ∙ rw is refl in
        let first : place_behind (record { line = line; column = column }) (byte ∷ bytes) ≡ place_behind (record { line = line; column = column + 1 }) bytes = rw is refl in
        first ∙ rw more at beside ∙ place_is (omega (arith, count)) (rw (is, more) refl)
    by false is false none below beside =
        let count : count_by is_line_end (byte ∷ bytes) ≡ 0 + count_by is_line_end bytes = counted byte bytes ∙ rw is refl in
        let first : place_behind (record { line = line; column = column }) (byte ∷ bytes) ≡ place_behind (record { line = line; column = column + 1 }) bytes = rw is refl in
        first ∙ rw none at beside ∙ place_is (omega (arith, count)) (rw (is, none) (omega arith))

end_of-counts : (text : List ℕ) → place_behind (record { line = 1; column = 1 }) text ≡ end_of text
end_of-counts text = place_behind-counts 1 1 text ∙ by (list_any is_line_end text) refl
  where
    by : (more : Bool) → list_any is_line_end text ≡ more
        → ◌≡◌ {A = Place} (record { line = 1 + count_by is_line_end text; column = if list_any is_line_end text then length (after_line_ends text) + 1 else 1 + length text }) (end_of text)
    by true more = rw more (place_is (omega arith) refl)
    by false none = rw (none, none_left text none) (place_is (omega arith) (omega arith))

pub place_behind-append : (xs ys : List ℕ) (place : Place) → place_behind place (xs ++ ys) ≡ place_behind (place_behind place xs) ys
place_behind-append [] ys place = refl
place_behind-append (x ∷ xs) ys place = elim (cases_Bool (is_line_end x)) [
  | inl hit ↦ rw hit (place_behind-append xs ys _)
  | inr miss ↦ rw miss (place_behind-append xs ys _)
]

-- the place after bytes that follow others
pub place_behind-end : (gone bytes : List ℕ) (place : Place) → place ≡ end_of gone → place_behind place bytes ≡ end_of (gone ++ bytes)
place_behind-end gone bytes place at =
    ap (λ p. place_behind p bytes) (at ∙ sym (end_of-counts gone)) ∙ sym (place_behind-append gone bytes (record { line = 1; column = 1 })) ∙ end_of-counts (gone ++ bytes)
