-- The lines of a front of a text, and those that are known.
use Rattle.std.proofs.Common.{◌≡◌, ◌∙◌, ap, sym, refl, arith, inl, inr, ℕ, suc, ◌+◌, ◌<◌, nat_lt, Bool, true, false, List, [], ◌∷◌, ◌++◌, length, take, None, Some}
use Rattle.std.specs.List.{after_first, before_first, list_any, onto_first}
use Rattle.std.proofs.lemmas.Bool.{cases_Bool}
use Rattle.std.proofs.lemmas.Bool.Decides.{nat_tests}
use Rattle.std.proofs.lemmas.List.{length-take-le}
use Rattle.mt_text.specs.Text.{is_line_end, lines_of}
use Rattle.mt_text.specs.Feed.{known_front}
use Rattle.mt_text.proofs.Feeding.{unknown_few}
use Rattle.mt_text.proofs.Fronts.{long_front, reach, reach-more, seen_tells, told, untold}
use Rattle.mt_text.proofs.LineSteps.{lines_of-first}
use Rattle.mt_text.proofs.Places.{position_within}
use Rattle.mt_stream.specs.Known.{known_part}

-- ---- a line that an LF ends

ended_at : (seen tail : List ℕ) → reach seen < length seen → lines_of (take (reach seen + 1) seen ++ tail) ≡ take (reach seen) seen ∷ lines_of tail
ended_at [] tail some = absurd (omega arith)
ended_at (x ∷ xs) tail some = elim (cases_Bool (is_line_end x)) [
  | inl hit ↦ rw hit (rw hit refl)
  | inr miss ↦
      let one = reach-more x xs miss in
      let count : reach (x ∷ xs) + 1 ≡ suc (reach xs + 1) = omega (arith, one) in
      rw count (rw one (rw miss (ap (onto_first x) (ended_at xs tail (omega (arith, some, one))))))
]

any_line : (seen tail : List ℕ) → reach seen < length seen → list_any is_line_end (take (reach seen + 1) seen ++ tail) ≡ true
any_line [] tail some = absurd (omega arith)
any_line (x ∷ xs) tail some = elim (cases_Bool (is_line_end x)) [
  | inl hit ↦ rw hit (rw hit refl)
  | inr miss ↦
      let one = reach-more x xs miss in
      let count : reach (x ∷ xs) + 1 ≡ suc (reach xs + 1) = omega (arith, one) in
      rw count (rw miss (any_line xs tail (omega (arith, some, one))))
]

known_at_line : (seen tail : List ℕ) → reach seen < length seen → known_part (take (reach seen + 1) seen ++ tail) ≡ take (reach seen + 1) seen ++ known_part tail
known_at_line [] tail some = absurd (omega arith)
known_at_line (x ∷ xs) tail some = elim (cases_Bool (is_line_end x)) [
  | inl hit ↦ rw hit (rw hit refl)
  | inr miss ↦
      let one = reach-more x xs miss in
      let count : reach (x ∷ xs) + 1 ≡ suc (reach xs + 1) = omega (arith, one) in
      let later : reach xs < length xs = omega (arith, some, one) in
      rw count (rw miss (rw (any_line xs tail later) (ap (λ l. x ∷ l) (known_at_line xs tail later))))
]

-- a front with an LF is the line and what follows it
pub ended_lines : (seen tail : List ℕ) (count : ℕ) → known_front seen ≡ Some (count, true) → lines_of (take (count + 1) seen ++ tail) ≡ take count seen ∷ lines_of tail
ended_lines seen tail count is = elim (told seen (count, true) is) [
  | inl near ↦ let e : count ≡ reach seen = ap (λ (f : ℕ × Bool). f.0) near.0 in rw e (ended_at seen tail near.1)
  | inr away ↦ let e : true ≡ false = ap (λ (f : ℕ × Bool). f.1) away.0 in cc e
]

pub ended_known : (seen tail : List ℕ) (count : ℕ) → known_front seen ≡ Some (count, true) → known_part (take (count + 1) seen ++ tail) ≡ take (count + 1) seen ++ known_part tail
ended_known seen tail count is = elim (told seen (count, true) is) [
  | inl near ↦ let e : count ≡ reach seen = ap (λ (f : ℕ × Bool). f.0) near.0 in rw e (known_at_line seen tail near.1)
  | inr away ↦ let e : true ≡ false = ap (λ (f : ℕ × Bool). f.1) away.0 in cc e
]

-- ---- bytes without an LF

none_any : (bytes : List ℕ) → reach bytes ≡ length bytes → list_any is_line_end bytes ≡ false
none_any [] all = refl
none_any (x ∷ xs) all = elim (cases_Bool (is_line_end x)) [
  | inl hit ↦ let none : reach (x ∷ xs) ≡ 0 = rw hit refl in absurd (omega (arith, all, none))
  | inr miss ↦ let one = reach-more x xs miss in rw miss (none_any xs (omega (arith, all, one)))
]

pub some_any : (bytes : List ℕ) → reach bytes < length bytes → list_any is_line_end bytes ≡ true
some_any [] some = absurd (omega arith)
some_any (x ∷ xs) some = elim (cases_Bool (is_line_end x)) [
  | inl hit ↦ rw hit refl
  | inr miss ↦ let one = reach-more x xs miss in rw miss (some_any xs (omega (arith, some, one)))
]

-- bytes that tell no line have none that is known
pub unknown_part : (bytes : List ℕ) → known_front bytes ≡ None → known_part bytes ≡ []
unknown_part [] is = refl
unknown_part (x ∷ xs) is =
    let none = none_any (x ∷ xs) (untold (x ∷ xs) is) in
    let few : nat_lt 4096 (length (x ∷ xs)) ≡ false = grind (arith, nat_tests, unknown_few (x ∷ xs) is) in
    rw none (rw few refl)

-- ---- a line too long

before_more : (x : ℕ) (xs : List ℕ) → is_line_end x ≡ false → before_first is_line_end (x ∷ xs) ≡ x ∷ before_first is_line_end xs
before_more x xs miss = ap (λ n. take n (x ∷ xs)) (reach-more x xs miss)

-- the first line of the known part is the first line, where there is an LF
first_known : (bytes : List ℕ) → reach bytes < length bytes → before_first is_line_end (known_part bytes) ≡ before_first is_line_end bytes
first_known [] some = absurd (omega arith)
first_known (x ∷ xs) some = elim (cases_Bool (is_line_end x)) [
  | inl hit ↦ rw hit (rw hit refl)
  | inr miss ↦
      let one = reach-more x xs miss in
      let later : reach xs < length xs = omega (arith, some, one) in
      let known : known_part (x ∷ xs) ≡ x ∷ known_part xs = rw (miss, some_any xs later) refl in
      ap (before_first is_line_end) known ∙ before_more x (known_part xs) miss ∙ ap (λ l. x ∷ l) (first_known xs later) ∙ sym (before_more x xs miss)
]

long_known : (bytes : List ℕ) → 4096 < length (before_first is_line_end bytes) → 4096 < length (before_first is_line_end (known_part bytes))
long_known [] long = absurd (omega arith)
long_known (x ∷ xs) long = by (nat_lt (reach (x ∷ xs)) (length (x ∷ xs))) refl
  where
    by : (found : Bool) → nat_lt (reach (x ∷ xs)) (length (x ∷ xs)) ≡ found → 4096 < length (before_first is_line_end (known_part (x ∷ xs)))
    by true found = let same = ap length (first_known (x ∷ xs) (grind (arith, nat_tests, found))) in omega (arith, same, long)
    by false found =
        let all : reach (x ∷ xs) ≡ length (x ∷ xs) = grind (arith, nat_tests, found, position_within is_line_end (x ∷ xs)) in
        let far : nat_lt 4096 (length (x ∷ xs)) ≡ true = grind (arith, nat_tests, long, all, length-take-le (reach (x ∷ xs)) (x ∷ xs) (position_within is_line_end (x ∷ xs))) in
        let whole : known_part (x ∷ xs) ≡ x ∷ xs = rw (none_any (x ∷ xs) all) (rw far refl) in
        rw whole long

-- the first line is longer than a line may have
pub record HasLong (bytes : List ℕ) : Type 0 where
  pub line : List ℕ
  pub others : List (List ℕ)
  pub lines : lines_of bytes ≡ line ∷ others
  pub long : 4096 < length line

has_long : (bytes : List ℕ) → 4096 < length (before_first is_line_end bytes) → HasLong bytes
has_long [] long = absurd (omega arith)
has_long (x ∷ xs) long = record {
  line = before_first is_line_end (x ∷ xs);
  others = lines_of (after_first is_line_end (x ∷ xs));
  lines = lines_of-first x xs;
  long = long;
}

pub long_lines : (seen tail : List ℕ) (count : ℕ) → known_front seen ≡ Some (count, false) → HasLong (seen ++ tail) × HasLong (known_part (seen ++ tail))
long_lines seen tail count is =
    let front = long_front (seen ++ tail) count (seen_tells seen tail (count, false) is) in
    (has_long (seen ++ tail) front.1, has_long (known_part (seen ++ tail)) (long_known (seen ++ tail) front.1))
