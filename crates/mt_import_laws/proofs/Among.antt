-- Elements of lists that are made from others.
use Rattle.std.proofs.Common.{◌≡◌, ◌∙◌, ℕ, zero, suc, Bool, true, false, List, [], ◌∷◌, ◌++◌, filter, map, Some, refl, sym, ap, subst, inl, inr}
use Rattle.std.specs.Prelude.{◌⊎◌, if◌then◌else◌, slice_get}
use Rattle.std.specs.List.{AllByRecursion}
use Rattle.mt_import_laws.specs.Origins.{IsAmong}

pub among_map : {A B : Type 0} (f : A → B) (xs : List A) (y : B) → IsAmong y (map f xs) → (x : A) × IsAmong x xs × (y ≡ f x)
among_map f [] y among = absurd among
among_map f (x ∷ xs) y (inl same) = (x, inl refl, sym same)
among_map f (x ∷ xs) y (inr later) = let found = among_map f xs y later in (found.0, inr found.1, found.2)

pub map_among : {A B : Type 0} (f : A → B) (xs : List A) (x : A) → IsAmong x xs → IsAmong (f x) (map f xs)
map_among f [] x among = absurd among
map_among f (y ∷ xs) x (inl same) = inl (ap f same)
map_among f (y ∷ xs) x (inr later) = inr (map_among f xs x later)

pub among_at : {A : Type 0} (xs : List A) (i : ℕ) (x : A) → slice_get xs i ≡ Some x → IsAmong x xs
among_at [] i x at = cc at
among_at (y ∷ xs) zero x at = let same : y ≡ x = cc at in inl same
among_at (y ∷ xs) (suc i) x at = inr (among_at xs i x at)

pub each_among : {A : Type 0} (P : A → Type 0) (xs : List A) (x : A) → AllByRecursion P xs → IsAmong x xs → P x
each_among P [] x each among = absurd among
each_among P (y ∷ xs) x each (inl same) = subst P same each.0
each_among P (y ∷ xs) x each (inr later) = each_among P xs x each.1 later

-- what holds of each element of a list holds of each that is made from one
pub all_map : {A B : Type 0} (P : B → Type 0) (f : A → B) (xs : List A) → ((x : A) → IsAmong x xs → P (f x)) → AllByRecursion P (map f xs)
all_map P f [] each = tt
all_map P f (x ∷ xs) each = (each x (inl refl), all_map P f xs (λ y among. each y (inr among)))

-- ---- elements that pass a test

pub among_filter : {A : Type 0} (p : A → Bool) (xs : List A) (x : A) → IsAmong x (filter p xs) → IsAmong x xs × (p x ≡ true)
among_filter p [] x among = absurd among
among_filter {A} p (y ∷ xs) x among = by (p y) refl (among_filter p xs x) among
  where
    by : (test : Bool) → p y ≡ test → (IsAmong x (filter p xs) → IsAmong x xs × (p x ≡ true)) → IsAmong x (if test then y ∷ filter p xs else filter p xs) → IsAmong x (y ∷ xs) × (p x ≡ true)
    by true passes later (inl same) = (inl same, ap p (sym same) ∙ passes)
    by true passes later (inr among) = let found = later among in (inr found.0, found.1)
    by false fails later among = let found = later among in (inr found.0, found.1)

pub filter_among : {A : Type 0} (p : A → Bool) (xs : List A) (x : A) → IsAmong x xs → p x ≡ true → IsAmong x (filter p xs)
filter_among p [] x among passes = absurd among
filter_among p (y ∷ xs) x (inl same) passes = let here : p y ≡ true = ap p same ∙ passes in rw here (inl same)
filter_among p (y ∷ xs) x (inr later) passes = by (p y) (filter_among p xs x later passes)
  where
    by : (test : Bool) → IsAmong x (filter p xs) → IsAmong x (if test then y ∷ filter p xs else filter p xs)
    by true among = inr among
    by false among = among

-- ---- elements of one list behind another

pub among_join : {A : Type 0} (xs ys : List A) (x : A) → IsAmong x (xs ++ ys) → IsAmong x xs ⊎ IsAmong x ys
among_join [] ys x among = inr among
among_join (y ∷ xs) ys x (inl same) = inl (inl same)
among_join (y ∷ xs) ys x (inr later) = elim (among_join xs ys x later) [
  | inl first ↦ inl (inr first)
  | inr second ↦ inr second
]

pub join_among_first : {A : Type 0} (xs ys : List A) (x : A) → IsAmong x xs → IsAmong x (xs ++ ys)
join_among_first [] ys x among = absurd among
join_among_first (y ∷ xs) ys x (inl same) = inl same
join_among_first (y ∷ xs) ys x (inr later) = inr (join_among_first xs ys x later)

pub join_among_second : {A : Type 0} (xs ys : List A) (x : A) → IsAmong x ys → IsAmong x (xs ++ ys)
join_among_second [] ys x among = among
join_among_second (y ∷ xs) ys x among = inr (join_among_second xs ys x among)
