-- In ascending order each processor stands once.
use Rattle.std.proofs.Common.{◌≡◌, ◌∙◌, ap, refl, arith, inl, inr, ℕ, zero, suc, ◌+◌, ◌<◌, ◌≤◌, ◌==◌, false, cond}
use Rattle.std.specs.List.{count_by, range_with_len}
use Rattle.std.proofs.lemmas.Bool.{cases_lt, eq-eqb, le-ltb, lt-ltb, ne_eqb}
use Rattle.mt_laws.specs.Counts.{IsEachOnce}
use Rattle.mt_laws.proofs.Steps.StepCounts.{count_more}

abbrev times : ℕ → ℕ → ℕ → ℕ
times k a n = count_by (λ j. j == k) (range_with_len a n)

nothing_more : (n : ℕ) → 0 + n ≡ n
nothing_more n = omega arith

skipped : (k a n : ℕ) → (a == k) ≡ false → times k a (suc n) ≡ times k (a + 1) n
skipped k a n is = count_more (λ j. j == k) a (range_with_len (a + 1) n) ∙ ap (λ b. cond b 1 0 + times k (a + 1) n) is ∙ nothing_more (times k (a + 1) n)

never : (k a n : ℕ) → k < a → times k a n ≡ 0
never k a zero below = refl
never k a (suc n) below = skipped k a n (ne_eqb a k (λ e. omega arith)) ∙ never k (a + 1) n (omega arith)

past : (k a n : ℕ) → a + n ≤ k → times k a n ≡ 0
past k a zero above = refl
past k a (suc n) above = skipped k a n (ne_eqb a k (λ e. omega arith)) ∙ past k (a + 1) n (omega arith)

once : (k a n : ℕ) → a ≤ k → k < a + n → times k a n ≡ 1
once k a zero from to = absurd (omega arith)
once k a (suc n) from to = elim (cases_lt a k) [
  | inl below ↦ skipped k a n (ne_eqb a k (λ e. omega arith)) ∙ once k (a + 1) n (omega arith) (omega arith)
  | inr level ↦
      let same : a ≡ k = omega arith in
      count_more (λ j. j == k) a (range_with_len (a + 1) n) ∙ ap (λ b. cond b 1 0 + times k (a + 1) n) (eq-eqb a k same) ∙ ap (λ m. 1 + m) (never k (a + 1) n (omega arith))
]

pub each_once : (count : ℕ) → IsEachOnce count (range_with_len 0 count)
each_once count k = elim (cases_lt k count) [
  | inl below ↦ rw (lt-ltb k count below) (once k 0 count (omega arith) (omega arith))
  | inr above ↦ rw (le-ltb k count above) (past k 0 count (omega arith))
]
