-- Elements of lists by their places.
use Rattle.std.proofs.Common.{◌≡◌, ◌≢◌, ◌∙◌, ap, refl, subst, sym, Bool, true, false, ℕ, zero, suc, ◌+◌, ◌<◌, List, [], ◌∷◌, ◌++◌, drop, length, replicate, Some, inl, inr, ⊎_elim, arith}
use Rattle.std.specs.Prelude.{◌⊎◌, ◌||◌, slice_get, slice_set}
use Rattle.std.specs.List.{fold, list_any}
use Rattle.std.proofs.lemmas.List.{drop_more}
use Rattle.std.proofs.lemmas.Option.{get_or_from_slice_get, slice_get_within}

pub drop_at : {X : Type 0} (xs : List X) (i : ℕ) (x : X) → slice_get xs i ≡ Some x → drop i xs ≡ x ∷ drop (i + 1) xs
drop_at xs i x at = drop_more xs i x (slice_get_within xs i x at) ∙ ap (λ y. y ∷ drop (i + 1) xs) (get_or_from_slice_get xs i x x at)

-- one step of a walk over a list
pub any_here : {X : Type 0} (p : X → Bool) (xs : List X) (i : ℕ) (x : X) → slice_get xs i ≡ Some x → p x ≡ true → list_any p (drop i xs) ≡ true
any_here p xs i x at is = ap (list_any p) (drop_at xs i x at) ∙ ap (λ (b : Bool). b || list_any p (drop (i + 1) xs)) is

pub any_on : {X : Type 0} (p : X → Bool) (xs : List X) (i : ℕ) (x : X) → slice_get xs i ≡ Some x → p x ≡ false → list_any p (drop (i + 1) xs) ≡ list_any p (drop i xs)
any_on p xs i x at is = sym (ap (list_any p) (drop_at xs i x at) ∙ ap (λ (b : Bool). b || list_any p (drop (i + 1) xs)) is)

pub fold_on : {A X : Type 0} (f : A → X → A) (a : A) (xs : List X) (i : ℕ) (x : X) → slice_get xs i ≡ Some x → fold f (f a x) (drop (i + 1) xs) ≡ fold f a (drop i xs)
fold_on f a xs i x at = sym (ap (fold f a) (drop_at xs i x at))

-- what stands at a place after a list was changed at one
pub at_put : {X : Type 0} (xs : List X) (k i : ℕ) (y q : X) → slice_get (slice_set xs k y) i ≡ Some q → ((i ≡ k) × (y ≡ q)) ⊎ ((i ≢ k) × (slice_get xs i ≡ Some q))
at_put [] k i y q h = absurd (cc)
at_put (x ∷ xs) zero zero y q h = inl (refl, cc)
at_put (x ∷ xs) zero (suc i) y q h = inr ((λ e. absurd (cc)), h)
at_put (x ∷ xs) (suc k) zero y q h = inr ((λ e. absurd (cc)), h)
at_put (x ∷ xs) (suc k) (suc i) y q h =
    ⊎_elim
    (λ (e : (i ≡ k) × (y ≡ q)). inl (ap suc e.0, e.1))
    (λ (e : (i ≢ k) × (slice_get xs i ≡ Some q)). inr ((λ same. e.0 (omega arith)), e.1))
    (at_put xs k i y q h)

-- and after one more stands at the end
pub at_end : {X : Type 0} (xs : List X) (y : X) (i : ℕ) (q : X) → slice_get (xs ++ y ∷ []) i ≡ Some q → ((i ≡ length xs) × (y ≡ q)) ⊎ (slice_get xs i ≡ Some q)
at_end [] y zero q h = inl (refl, cc)
at_end [] y (suc i) q h = absurd (cc)
at_end (x ∷ xs) y zero q h = inr h
at_end (x ∷ xs) y (suc i) q h =
    ⊎_elim (λ (e : (i ≡ length xs) × (y ≡ q)). inl (ap suc e.0, e.1)) (λ (e : slice_get xs i ≡ Some q). inr e) (at_end xs y i q h)

pub replicate_more : {X : Type 0} (n : ℕ) (x : X) → replicate n x ++ x ∷ [] ≡ replicate (n + 1) x
replicate_more {X = X} n x = more n ∙ ap (λ (k : ℕ). replicate k x) (let e : suc n ≡ n + 1 = omega arith in e)
  where
    more : (n : ℕ) → replicate n x ++ x ∷ [] ≡ replicate (suc n) x
    more zero = refl
    more (suc n) = ap (λ (l : List X). x ∷ l) (more n)

pub got : {X : Type 0} (xs : List X) (k : ℕ) → k < length xs → (x : X) × (slice_get xs k ≡ Some x)
got [] k low = absurd (omega arith)
got (x ∷ xs) zero low = (x, refl)
got (x ∷ xs) (suc k) low = got xs k (omega arith)

-- what is so of the element at a place
pub there : {X : Type 0} (P : X → Type 0) (xs : List X) (k : ℕ) (x : X) → slice_get xs k ≡ Some x → (y : X) × (slice_get xs k ≡ Some y) × P y → P x
there {X = X} P xs k x at found = subst P (same found.0 x (sym found.1 ∙ at)) found.2
  where
    same : (a b : X) → Some a ≡ Some b → a ≡ b
    same a b e = cc
