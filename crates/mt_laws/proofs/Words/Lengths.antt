-- How long a list of lines is after each change.
use Rattle.std.proofs.Common.{◌≡◌, ℕ, suc, ◌+◌, ◌<◌, ◌≤◌, ◌==◌, List, [], ◌∷◌, ◌++◌, length, drop, Some, None, Bool, true, false, refl, sym, ap, subst, arith, length-append, eq-eqb}
use Rattle.std.specs.Prelude.{if◌then◌else◌, not}
use Rattle.std.specs.List.{filter}
use Rattle.std.proofs.lemmas.Bool.{eqb-true, eqb-false}
use Rattle.std.proofs.lemmas.List.{length-map}
use Rattle.mt_cache.specs.declared.line.CacheLine.{CacheLine}
use Rattle.mt_cache.specs.Lines.{change_line, has_number, oldest_of_full, without_line}

pub filter_length : {X : Type 0} (test : X → Bool) (xs : List X) → length (filter test xs) ≤ length xs
filter_length test [] = omega arith
filter_length test (x ∷ xs) = one (test x) (filter_length test xs)
  where
    one : (b : Bool) → length (filter test xs) ≤ length xs → length (if b then x ∷ filter test xs else filter test xs) ≤ suc (length xs)
    one true h = omega arith
    one false h = omega arith

pub add_length : {X : Type 0} (xs : List X) (x : X) → length (xs ++ x ∷ []) ≡ length xs + 1
add_length xs x = length-append xs (x ∷ [])

dropped : {X : Type 0} {size : ℕ} (xs : List X) (x : X) → 0 < size → length xs ≡ size → length (drop 1 xs ++ x ∷ []) ≤ size
dropped [] x some full = absurd (omega arith)
dropped (y ∷ xs) x some full = let long = add_length xs x in omega arith

-- the first is dropped where the list is full
pub drop_length : {X : Type 0} (size : ℕ) (xs : List X) (x : X) → 0 < size → length xs ≤ size → length ((if length xs == size then drop 1 xs else xs) ++ x ∷ []) ≤ size
drop_length size xs x some few = one (length xs == size) refl
  where
    one : (b : Bool) → (length xs == size) ≡ b → length ((if b then drop 1 xs else xs) ++ x ∷ []) ≤ size
    one true is = dropped xs x some (eqb-true (length xs) size is)
    one false is = let apart = eqb-false (length xs) size is in let long = add_length xs x in omega arith

pub without_length : (n : ℕ) (ls : List CacheLine) → length (without_line n ls) ≤ length ls
without_length n ls = filter_length (λ l. not (has_number n l)) ls

pub change_length : (n : ℕ) (f : CacheLine → CacheLine) (ls : List CacheLine) → length (change_line n f ls) ≡ length ls
change_length n f ls = length-map ls (λ l. if has_number n l then f l else l)

-- where a list isn't full, and where its oldest goes

pub oldest_none : (size : ℕ) (ls : List CacheLine) → 0 < size → length ls ≤ size → oldest_of_full size ls ≡ None → length ls < size
oldest_none size [] some few h = some
oldest_none size (x ∷ ls) some few h = one (length ls + 1 == size) refl h
  where
    one : (b : Bool) → (length ls + 1 == size) ≡ b → (if b then Some x else None) ≡ None → suc (length ls) < size
    one true is g = absurd (cc)
    one false is g = let apart = eqb-false (length ls + 1) size is in omega arith

pub oldest_some : (size : ℕ) (ls : List CacheLine) (l : CacheLine) → length ls ≤ size → oldest_of_full size ls ≡ Some l → length (without_line l.number ls) < size
oldest_some size [] l few h = absurd (cc)
oldest_some size (x ∷ ls) l few h = one (length ls + 1 == size) refl h
  where
    one : (b : Bool) → (length ls + 1 == size) ≡ b → (if b then Some x else None) ≡ Some l → length (without_line l.number (x ∷ ls)) < size
    one true is g =
        let e : x ≡ l = cc in
        let gone : (x.number == l.number) ≡ true = eq-eqb x.number l.number (ap (λ (y : CacheLine). y.number) e) in
        let short : length (without_line l.number (x ∷ ls)) ≤ length ls = subst (λ b. length (if not b then x ∷ without_line l.number ls else without_line l.number ls) ≤ length ls) (sym gone) (without_length l.number ls) in
        let full = eqb-true (length ls + 1) size is in
        omega arith
    one false is g = absurd (cc)
