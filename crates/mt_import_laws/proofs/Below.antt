-- Tests that each number below one passes.
use Rattle.std.proofs.Common.{◌≡◌, ◌<◌, ◌==◌, ◌&&◌, ℕ, zero, suc, Bool, true, false, Option, Some, None, ap, subst, arith, inl, inr}
use Rattle.std.proofs.lemmas.Bool.{and_parts, cases_lt, eqb-true}

-- each number below one passes a test
abbrev pub all_below : (ℕ → Bool) → ℕ → Bool
all_below test zero = true
all_below test (suc n) = test n && all_below test n

pub passes : (test : ℕ → Bool) (n k : ℕ) → all_below test n ≡ true → k < n → test k ≡ true
passes test zero k all less = absurd (omega (arith, less))
passes test (suc n) k all less =
    let parts = and_parts (test n) (all_below test n) all in
    elim (cases_lt k n) [
      | inl below ↦ passes test n k parts.1 below
      | inr top ↦ let e : n ≡ k = omega (arith, less, top) in subst (λ j. test j ≡ true) e parts.0
    ]

abbrev pub is_value : Option ℕ → ℕ → Bool
is_value None value = false
is_value (Some other) value = other == value

pub some_value : (o : Option ℕ) (value : ℕ) → is_value o value ≡ true → o ≡ Some value
some_value None value is = cc is
some_value (Some other) value is = ap Some (eqb-true other value is)
