-- Sizes of granules and their logs.
use Rattle.std.proofs.Common.{◌≡◌, ◌≢◌, ℕ, zero, suc, ◌+◌, ◌^◌, ◌<◌, ◌≤◌, ◌==◌, true, false, Option, Some, None, refl, sym, ap, ◌∙◌, ◌⊎◌, inl, inr, arith}
use Rattle.std.specs.Prelude.{◌↔◌, IfNone, IfSome}
use Rattle.std.proofs.lemmas.Bool.{cases_Bool, eq-eqb, eqb-true}
use Rattle.mt_ranges.proofs.Powers.{log_le}
use Rattle.mt_gran.specs.Sizes.{IsGranuleSize, log_among}

-- the next log is looked at
pub log_here : (size log more : ℕ) → 0 < more → size ≡ 2 ^ (12 + log) → log_among size log more ≡ Some log
unfolding log_among
log_here size log zero some is = absurd (omega (arith, some))
log_here size log (suc more) some is = let test : (size == 2 ^ (12 + log)) ≡ true = eq-eqb size (2 ^ (12 + log)) is in rw test refl

pub log_later : (size log more left : ℕ) → more ≡ left + 1 → size ≢ 2 ^ (12 + log) → log_among size log more ≡ log_among size (log + 1) left
unfolding log_among
log_later size log zero left some other = absurd (omega (arith, some))
log_later size log (suc more) left some other =
    let e : more ≡ left = omega (arith, some) in
    elim (cases_Bool (size == 2 ^ (12 + log))) [
      | inl same ↦ absurd (other (eqb-true size (2 ^ (12 + log)) same))
      | inr test ↦ rw test (ap (log_among size (log + 1)) e)
    ]

pub no_log : (size log : ℕ) → log_among size log 0 ≡ None
unfolding log_among
no_log size log = refl

-- the log that is found, and that it is found
found_log : (size log more g : ℕ) → log_among size log more ≡ Some g → (size ≡ 2 ^ (12 + g)) × (g < log + more)
unfolding log_among
found_log size log zero g is = absurd (cc is)
found_log size log (suc more) g is = by_test (cases_Bool (size == 2 ^ (12 + log))) (found_log size (log + 1) more g)
  where
    by_test : ((size == 2 ^ (12 + log)) ≡ true) ⊎ ((size == 2 ^ (12 + log)) ≡ false) → (log_among size (log + 1) more ≡ Some g → (size ≡ 2 ^ (12 + g)) × (g < log + 1 + more))
        → (size ≡ 2 ^ (12 + g)) × (g < log + suc more)
    by_test (inl test) later =
        let found : Some log ≡ Some g = rw test at is in
        let same : log ≡ g = cc in
        (eqb-true size (2 ^ (12 + log)) test ∙ ap (λ (n : ℕ). 2 ^ (12 + n)) same, omega arith)
    by_test (inr test) later =
        let found : log_among size (log + 1) more ≡ Some g = rw test at is in
        let rest = later found in
        (rest.0, omega (arith, rest.1))

same_log : (a b : ℕ) → 2 ^ (12 + a) ≡ 2 ^ (12 + b) → a ≡ b
same_log a b e = omega (arith, log_le (12 + a) (12 + b) (omega (arith, e)), log_le (12 + b) (12 + a) (omega (arith, e)))

finds_log : (size log more g : ℕ) → log ≤ g → g < log + more → size ≡ 2 ^ (12 + g) → log_among size log more ≡ Some g
unfolding log_among
finds_log size log zero g low high is = absurd (omega arith)
finds_log size log (suc more) g low high is = by_test (cases_Bool (size == 2 ^ (12 + log))) (λ above. finds_log size (log + 1) more g above (omega arith) is)
  where
    by_test : ((size == 2 ^ (12 + log)) ≡ true) ⊎ ((size == 2 ^ (12 + log)) ≡ false) → (log + 1 ≤ g → log_among size (log + 1) more ≡ Some g) → log_among size log (suc more) ≡ Some g
    by_test (inl test) later =
        let same : log ≡ g = same_log log g (sym (eqb-true size (2 ^ (12 + log)) test) ∙ is) in
        rw test (ap (λ (n : ℕ). Some n) same)
    by_test (inr test) later = rw test (later (omega (arith, other)))
      where
        other : log ≢ g
        other same = let here = eq-eqb size (2 ^ (12 + log)) (is ∙ ap (λ (n : ℕ). 2 ^ (12 + n)) (sym same)) in cc

pub size_is : (size log : ℕ) → (log_among size 0 29 ≡ Some log) ↔ IsGranuleSize size log
size_is size log = (
  λ is. let found = found_log size 0 29 log is in (omega (arith, found.1), found.0),
  λ both. finds_log size 0 29 log (omega arith) (omega (arith, both.0)) both.1,
)

pub one_log : (size a b : ℕ) → IsGranuleSize size a → IsGranuleSize size b → a ≡ b
one_log size a b first second = same_log a b (sym first.1 ∙ second.1)

pub some_size : (size : ℕ) (found : Option ℕ) → found ≡ log_among size 0 29 → IfSome found (λ log. IsGranuleSize size log)
some_size size (Some log) is = (size_is size log).0 (sym is)
some_size size None is = tt

pub no_size : (size : ℕ) (found : Option ℕ) → found ≡ log_among size 0 29 → IfNone found ((log : ℕ) → ¬ IsGranuleSize size log)
no_size size (Some log) is = tt
no_size size None is = λ log has. let h : None ≡ Some log = is ∙ (size_is size log).1 has in absurd (cc h)
