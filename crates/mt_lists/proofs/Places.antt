-- Where no two elements have one key, an element's place is the first one with its key.
use Rattle.std.proofs.Common.{◌≡◌, ◌∙◌, ap, sym, ℕ, zero, suc, ◌+◌, ◌<◌, ◌==◌, not, List, [], ◌∷◌, length, get_or, None, Some, false, arith}
use Rattle.std.specs.Prelude.{if◌then◌else◌, nat_lt, slice_get}
use Rattle.std.specs.List.{position, position_or_len}
use Rattle.std.proofs.lemmas.Bool.{eq-eqb, lt-ltb, ne_eqb}
use Rattle.std.proofs.lemmas.Option.{get_or_from_slice_get}
use Rattle.mt_lists.specs.Keys.{AreApart}

first_is : {X : Type 0} (key : X → ℕ) (n : ℕ) (xs : List X) (i : ℕ) (d : X) → AreApart key xs → i < length xs → key (get_or xs i d) ≡ n → position_or_len (λ y. key y == n) xs ≡ i
first_is key n [] i d apart within is = absurd (omega arith)
first_is key n (y ∷ ys) zero d apart within is = ap (λ b. if not b then 1 + position_or_len (λ z. key z == n) ys else 0) (eq-eqb (key y) n is)
first_is key n (y ∷ ys) (suc i) d apart within is =
    let other : (key y == n) ≡ false = ne_eqb (key y) n (λ e. apart 0 (suc i) d (omega arith) (omega arith) (e ∙ sym is)) in
    let later : position_or_len (λ z. key z == n) ys ≡ i = first_is key n ys i d (λ j k e before end. apart (suc j) (suc k) e (omega arith) (omega arith)) (omega arith) is in
    ap (λ b. if not b then 1 + position_or_len (λ z. key z == n) ys else 0) other ∙ (let e : 1 + position_or_len (λ z. key z == n) ys ≡ suc i = omega arith in e)

pub place_is : {X : Type 0} (key : X → ℕ) (n : ℕ) (xs : List X) (i : ℕ) (d : X) → AreApart key xs → i < length xs → key (get_or xs i d) ≡ n → position (λ y. key y == n) xs ≡ Some i
place_is key n xs i d apart within is =
    ap (λ k. if nat_lt k (length xs) then Some k else None) (first_is key n xs i d apart within is)
    ∙ ap (λ b. if b then Some i else None) (lt-ltb i (length xs) within)

-- the same of an element that stands at its place
pub place_at : {X : Type 0} (key : X → ℕ) (n : ℕ) (xs : List X) (i : ℕ) (x : X) → AreApart key xs → i < length xs → slice_get xs i ≡ Some x → key x ≡ n → position (λ y. key y == n) xs ≡ Some i
place_at key n xs i x apart within at is = place_is key n xs i x apart within (ap key (get_or_from_slice_get xs i x x at) ∙ is)
