-- The front that a feed lends, by where the first line ends.
use Rattle.std.proofs.Common.{◌≡◌, ℕ, zero, suc, ◌+◌, ◌<◌, ◌≤◌, ◌==◌, nat_lt, Bool, true, false, List, [], ◌∷◌, ◌++◌, length, take, drop, Option, Some, None, refl, sym, ◌∙◌, ap, arith, add-one, add_comm, inl, inr, length-append}
use Rattle.std.specs.Prelude.{◌⊎◌}
use Rattle.std.specs.List.{before_first, position, position_or_len}
use Rattle.std.proofs.lemmas.Bool.{cases_Bool}
use Rattle.std.proofs.lemmas.Bool.Decides.{nat_tests}
use Rattle.std.proofs.lemmas.List.{length-take-le}
use Rattle.mt_text.specs.Text.{is_line_end, lines_of, end_of, place_behind}
use Rattle.mt_text.specs.Feed.{IsFront, known_front, place_after, with_end}
use Rattle.mt_text.specs.declared.place.Place.{Place}
use Rattle.mt_text.proofs.EndPlace.{place_behind-end}
use Rattle.mt_text.proofs.LineSteps.{ended_line, last_line}
use Rattle.mt_text.proofs.Places.{position_within}

-- how many bytes stand before the first LF
abbrev pub reach : List ℕ → ℕ
reach bytes = position_or_len is_line_end bytes

pub reach-more : (x : ℕ) (xs : List ℕ) → is_line_end x ≡ false → reach (x ∷ xs) ≡ suc (reach xs)
reach-more x xs miss = rw (miss, add_comm 1 (position_or_len is_line_end xs), add-one) refl

reach-append : (xs ys : List ℕ) → reach xs < length xs → reach (xs ++ ys) ≡ reach xs
reach-append [] ys some = absurd (omega arith)
reach-append (x ∷ xs) ys some = elim (cases_Bool (is_line_end x)) [
  | inl hit ↦ rw hit refl
  | inr miss ↦
      let one = reach-more x xs miss in
      reach-more x (xs ++ ys) miss ∙ ap suc (reach-append xs ys (omega (arith, some, one))) ∙ sym one
]

reach-past : (xs ys : List ℕ) → reach xs ≡ length xs → reach (xs ++ ys) ≡ length xs + reach ys
reach-past [] ys all = omega arith
reach-past (x ∷ xs) ys all = elim (cases_Bool (is_line_end x)) [
  | inl hit ↦ let none : reach (x ∷ xs) ≡ 0 = rw hit refl in absurd (omega (arith, all, none))
  | inr miss ↦
      let one = reach-more x xs miss in
      let later = reach-past xs ys (omega (arith, all, one)) in
      omega (arith, reach-more x (xs ++ ys) miss, later)
]

near : (bytes : List ℕ) → reach bytes < length bytes → reach bytes ≤ 4096 → known_front bytes ≡ Some (reach bytes, true)
near bytes within short =
    let found : nat_lt (reach bytes) (length bytes) ≡ true = grind (arith, nat_tests, within) in
    let few : nat_lt 4096 (reach bytes) ≡ false = grind (arith, nat_tests, short) in
    rw found (rw few refl)

far : (bytes : List ℕ) → 4096 < reach bytes → known_front bytes ≡ Some (4097, false)
far bytes long = elim (cases_Bool (nat_lt (reach bytes) (length bytes))) [
  | inl found ↦ let many : nat_lt 4096 (reach bytes) ≡ true = grind (arith, nat_tests, long) in rw found (rw many refl)
  | inr missing ↦ let many : nat_lt 4096 (length bytes) ≡ true = grind (arith, nat_tests, long, position_within is_line_end bytes) in rw missing (rw many refl)
]

-- a front tells where the line ends
abbrev pub Told : List ℕ → ℕ × Bool → Type 0
Told bytes front = ((front ≡ (reach bytes, true)) × (reach bytes < length bytes) × (reach bytes ≤ 4096)) ⊎ ((front ≡ (4097, false)) × (4096 < reach bytes))

pub told : (bytes : List ℕ) (front : ℕ × Bool) → known_front bytes ≡ Some front → Told bytes front
told bytes front is = by (nat_lt (reach bytes) (length bytes)) refl (nat_lt 4096 (reach bytes)) refl (nat_lt 4096 (length bytes)) refl
  where
    one : (a b : ℕ × Bool) → Some a ≡ Some b → b ≡ a
    one a b e = let f : Some b ≡ Some a = sym e in cc f

    by : (found : Bool) → nat_lt (reach bytes) (length bytes) ≡ found → (many : Bool) → nat_lt 4096 (reach bytes) ≡ many → (all : Bool) → nat_lt 4096 (length bytes) ≡ all → Told bytes front
    by true found true many all whole = inr (one _ _ (rw many at (rw found at is)), grind (arith, nat_tests, many))
    by true found false many all whole = inl (one _ _ (rw many at (rw found at is)), grind (arith, nat_tests, found), grind (arith, nat_tests, many))
    by false found many_is many true whole = inr (one _ _ (rw whole at (rw found at is)), grind (arith, nat_tests, whole, found))
    by false found many_is many false whole = cc (rw whole at (rw found at is))

pub untold : (bytes : List ℕ) → known_front bytes ≡ None → reach bytes ≡ length bytes
untold bytes is = by (nat_lt (reach bytes) (length bytes)) refl (nat_lt 4096 (reach bytes)) refl
  where
    by : (found : Bool) → nat_lt (reach bytes) (length bytes) ≡ found → (many : Bool) → nat_lt 4096 (reach bytes) ≡ many → reach bytes ≡ length bytes
    by true found true many = cc (rw many at (rw found at is))
    by true found false many = cc (rw many at (rw found at is))
    by false found many_is many = grind (arith, nat_tests, found, position_within is_line_end bytes)

-- what was seen tells the front of all that is left
pub seen_tells : (seen later : List ℕ) (front : ℕ × Bool) → known_front seen ≡ Some front → known_front (seen ++ later) ≡ Some front
seen_tells seen later front is = elim (told seen front is) [
  | inl near_by ↦
      let same = reach-append seen later near_by.1 in
      let front_is : (reach (seen ++ later), true) ≡ front = ap (λ n. let f : ℕ × Bool = (n, true) in f) same ∙ sym near_by.0 in
      near (seen ++ later) (omega (arith, same, near_by.1, length-append seen later)) (omega (arith, same, near_by.2)) ∙ ap Some front_is
  | inr away ↦ far (seen ++ later) (long (nat_lt (reach seen) (length seen)) refl away.1) ∙ ap Some (sym away.0)
]
  where
    long : (found : Bool) → nat_lt (reach seen) (length seen) ≡ found → 4096 < reach seen → 4096 < reach (seen ++ later)
    long true found many = let same = reach-append seen later (grind (arith, nat_tests, found)) in omega (arith, same, many)
    long false found many =
        let all : reach seen ≡ length seen = grind (arith, nat_tests, found, position_within is_line_end seen) in
        let more = reach-past seen later all in
        omega (arith, more, many, all)

pub ended_front : (rest : List ℕ) (count : ℕ) → known_front rest ≡ Some (count, true) → lines_of rest ≡ take count rest ∷ lines_of (drop (count + 1) rest)
ended_front rest count is = elim (told rest (count, true) is) [
  | inl near_by ↦
      let count_is : count ≡ reach rest = ap (λ (f : ℕ × Bool). f.0) near_by.0 in
      let found : nat_lt (reach rest) (length rest) ≡ true = grind (arith, nat_tests, near_by.1) in
      let at : position is_line_end rest ≡ Some count = rw found (ap Some (sym count_is)) in
      ended_line rest count at
  | inr away ↦ let e : true ≡ false = ap (λ (f : ℕ × Bool). f.1) away.0 in cc e
]

-- a line that an LF ends isn't too long
pub front_few : (bytes : List ℕ) (count : ℕ) → known_front bytes ≡ Some (count, true) → count ≤ 4096
front_few bytes count is = elim (told bytes (count, true) is) [
  | inl near_by ↦ let e : count ≡ reach bytes = ap (λ (f : ℕ × Bool). f.0) near_by.0 in omega (arith, e, near_by.2)
  | inr away ↦ let e : true ≡ false = ap (λ (f : ℕ × Bool). f.1) away.0 in cc e
]

pub last_front : (rest : List ℕ) → known_front rest ≡ None → 1 ≤ length rest → lines_of rest ≡ rest ∷ []
last_front rest is some =
    let all = untold rest is in
    let missing : nat_lt (reach rest) (length rest) ≡ false = grind (arith, nat_tests, all) in
    let has : (length rest == 0) ≡ false = grind (arith, nat_tests, some) in
    last_line rest (rw missing refl) has

pub long_front : (rest : List ℕ) (count : ℕ) → known_front rest ≡ Some (count, false) → (count ≡ 4097) × (4096 < length (before_first is_line_end rest))
long_front rest count is = elim (told rest (count, false) is) [
  | inl near_by ↦ let e : false ≡ true = ap (λ (f : ℕ × Bool). f.1) near_by.0 in cc e
  | inr away ↦ (ap (λ (f : ℕ × Bool). f.0) away.0, omega (arith, away.1, length-take-le (reach rest) rest (position_within is_line_end rest)))
]

-- the place after a front
after_line : (seen : List ℕ) (place : Place) → reach seen < length seen → place_behind place (take (reach seen + 1) seen) ≡ place_after place (reach seen, true)
after_line [] place some = absurd (omega arith)
after_line (x ∷ xs) place some = elim (cases_Bool (is_line_end x)) [
  | inl hit ↦ rw hit (rw hit refl)
  | inr miss ↦
      let one = reach-more x xs miss in
      let count : reach (x ∷ xs) + 1 ≡ suc (reach xs + 1) = omega (arith, one) in
      let later = after_line xs (record { line = place.line; column = place.column + 1 }) (omega (arith, some, one)) in
      rw count (rw miss later)
]

after_bytes : (count : ℕ) (seen : List ℕ) (place : Place) → count ≤ reach seen → place_behind place (take count seen) ≡ place_after place (count, false)
after_bytes zero seen place few = let same : place.column ≡ place.column + 0 = omega arith in ap (λ n. let p : Place = record { line = place.line; column = n } in p) same
after_bytes (suc count) [] place few = absurd (omega arith)
after_bytes (suc count) (x ∷ xs) place few = elim (cases_Bool (is_line_end x)) [
  | inl hit ↦ let none : reach (x ∷ xs) ≡ 0 = rw hit refl in absurd (omega (arith, few, none))
  | inr miss ↦
      let one = reach-more x xs miss in
      let later = after_bytes count xs (record { line = place.line; column = place.column + 1 }) (omega (arith, few, one)) in
      let sum : place.column + 1 + count ≡ place.column + suc count = omega arith in
      rw miss (later ∙ ap (λ n. let p : Place = record { line = place.line; column = n } in p) sum)
]

after_front : (seen : List ℕ) (left : Option (List ℕ)) (front : ℕ × Bool) (place : Place) → IsFront seen left front → place_behind place (take (with_end front) seen) ≡ place_after place front
after_front seen left front place (inl known) = elim (told seen front known) [
  | inl near_by ↦ rw near_by.0 (after_line seen place near_by.1)
  | inr away ↦ rw away.0 (after_bytes 4097 seen place away.1)
]
after_front seen left front place (inr last) =
    let count : length seen + 0 ≡ length seen = omega arith in
    rw (last.3, count) (after_bytes (length seen) seen place (omega (arith, untold seen last.0)))

pub place_of_front : (before seen : List ℕ) (left : Option (List ℕ)) (front : ℕ × Bool) → IsFront seen left front → place_after (end_of before) front ≡ end_of (before ++ take (with_end front) seen)
place_of_front before seen left front is = sym (after_front seen left front (end_of before) is) ∙ place_behind-end before (take (with_end front) seen) (end_of before) refl
