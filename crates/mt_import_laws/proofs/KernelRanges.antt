-- Runs of fixed ranges: what a run shows of a register, and that runs show all of it.
use Rattle.std.proofs.Common.{◌≡◌, ◌∙◌, ◌+◌, ◌-◌, ◌*◌, ◌/◌, ◌%◌, ◌^◌, ◌<◌, ◌≤◌, ◌==◌, ◌&&◌, nat_le, nat_lt, ℕ, zero, suc, Bool, true, false, List, ◌∷◌, refl, sym, ap, subst, arith, inl, inr, bit_and}
use Rattle.std.specs.Prelude.{if◌then◌else◌}
use Rattle.std.specs.Int.{bit_at}
use Rattle.std.proofs.Math.Nat.{mul-add, mul_left_comm, mul_comm}
use Rattle.std.proofs.lemmas.Bool.{cases_lt, eqb-true}
use Rattle.std.proofs.lemmas.Bool.Decides.{nat_tests}
use Rattle.std.proofs.lemmas.Nat.{shr-shr}
use Rattle.std.proofs.lemmas.Nat.Bits.{bit_at_cat_high, bit_at_cat_low, bit_at_ones}
use lib.Bits.{and_block, and_mask, and_zero_r}
use Rattle.mt_kinds.specs.Bits.{byte_at}
use Rattle.mt_import.specs.Kernel.{in_run}
use Rattle.mt_import_laws.specs.Origins.{IsAmong}
use Rattle.mt_import_laws.specs.PrintedByKernel.{runs}

-- ---- which ranges a run has

module _ (types : ℕ → ℕ) where
  -- all ranges of a run have the type of its first
  pub record IsRun (end : ℕ) (run : ℕ × ℕ) : Type 0 where
    pub some : run.0 < run.1
    pub within : run.1 ≤ end
    pub same : (range : ℕ) → run.0 ≤ range → range < run.1 → types range ≡ types run.0

  next_same : (first at : ℕ) → ((range : ℕ) → first ≤ range → range < at → types range ≡ types first) → types at ≡ types first → (range : ℕ) → first ≤ range → range < at + 1 → types range ≡ types first
  next_same first at before same range low high = elim (cases_lt range at) [
    | inl less ↦ before range low less
    | inr more ↦ let here : at ≡ range = omega (arith, more, high) in subst (λ r. types r ≡ types first) here same
  ]

  alone : (at range : ℕ) → at ≤ range → range < at + 1 → types range ≡ types at
  alone at range low high = let here : at ≡ range = omega (arith, low, high) in subst (λ r. types r ≡ types at) here refl

  pub are_runs : (first at left : ℕ) → first < at → ((range : ℕ) → first ≤ range → range < at → types range ≡ types first) → (run : ℕ × ℕ) → IsAmong run (runs types first at left) → IsRun (at + left) run
  are_runs first at zero some same run (inl is) = subst (IsRun (at + zero)) is (record { some = some; within = omega arith; same = same })
  are_runs first at zero some same run (inr none) = absurd none
  are_runs first at (suc left) some same run among =
      let end : at + 1 + left ≡ at + suc left = omega arith in
      by (types at == types first) refl
      (λ more later. subst (λ e. IsRun e run) end (are_runs first (at + 1) left (omega (arith, some)) more run later))
      (λ later. subst (λ e. IsRun e run) end (are_runs at (at + 1) left (omega arith) (alone at) run later)) among
    where
      by : (test : Bool) → (types at == types first) ≡ test
          → (((range : ℕ) → first ≤ range → range < at + 1 → types range ≡ types first) → IsAmong run (runs types first (at + 1) left) → IsRun (at + suc left) run)
          → (IsAmong run (runs types at (at + 1) left) → IsRun (at + suc left) run)
          → IsAmong run (if test then runs types first (at + 1) left else (first, at) ∷ runs types at (at + 1) left) → IsRun (at + suc left) run
      by true is goes_on begins later = goes_on (next_same first at same (eqb-true (types at) (types first) is)) later
      by false apart goes_on begins (inl is) = subst (IsRun (at + suc left)) is (record { some = some; within = omega arith; same = same })
      by false apart goes_on begins (inr later) = begins later

  -- a run that has a range
  pub record HasRun (all : List (ℕ × ℕ)) (range : ℕ) : Type 0 where
    pub run : ℕ × ℕ
    pub among : IsAmong run all
    pub low : run.0 ≤ range
    pub high : range < run.1

  pub runs_cover : (first at left range : ℕ) → first ≤ range → range < at + left → HasRun (runs types first at left) range
  runs_cover first at zero range low high = record { run = (first, at); among = inl refl; low = low; high = omega (arith, high) }
  runs_cover first at (suc left) range low high =
      by (types at == types first) (runs_cover first (at + 1) left range low (omega (arith, high))) (λ more. runs_cover at (at + 1) left range more (omega (arith, high)))
    where
      behind : HasRun (runs types at (at + 1) left) range → HasRun ((first, at) ∷ runs types at (at + 1) left) range
      behind found = record { run = found.run; among = inr found.among; low = found.low; high = found.high }

      by : (test : Bool) → HasRun (runs types first (at + 1) left) range → (at ≤ range → HasRun (runs types at (at + 1) left) range)
          → HasRun (if test then runs types first (at + 1) left else (first, at) ∷ runs types at (at + 1) left) range
      by true goes_on begins = goes_on
      by false goes_on begins = elim (cases_lt range at) [
        | inl less ↦ record { run = (first, at); among = inl refl; low = low; high = less }
        | inr more ↦ behind (begins more)
      ]

-- ---- what a run shows of a register

module _ (first end : ℕ) where
  -- a byte of 1 for each of so many ranges that the run has
  abbrev pub marks : ℕ → ℕ → ℕ
  marks zero at = 0
  marks (suc count) at = marks count (at + 1) * 2 ^ 8 + in_run first end at

  in_run_small : (range : ℕ) → in_run first end range ≤ 1
  in_run_small range = by (nat_le first range && nat_lt range end)
    where
      by : (test : Bool) → (if test then 1 else 0) ≤ 1
      by true = omega arith
      by false = omega arith

  pub in_run_one : (range : ℕ) → first ≤ range → range < end → in_run first end range ≡ 1
  in_run_one range low high =
      let one : nat_le first range ≡ true = grind (arith, nat_tests, low) in
      let two : nat_lt range end ≡ true = grind (arith, nat_tests, high) in
      rw (one, two) refl

  -- below 256 to this power
  abbrev power : ℕ → ℕ
  power zero = 1
  power (suc count) = 256 * power count

  marks_small : (count at : ℕ) → 255 * marks count at < power count
  marks_small zero at = omega arith
  marks_small (suc count) at = let later = marks_small count (at + 1) in let one = in_run_small at in omega (arith, later, one)

  scaled : (count at : ℕ) → 255 * marks (suc count) at ≡ 255 * marks count (at + 1) * 2 ^ 8 + 255 * in_run first end at
  scaled count at = omega arith

  mark_fits : (at : ℕ) → 255 * in_run first end at < 2 ^ 8
  mark_fits at = let one = in_run_small at in omega (arith, one)

  -- a byte where the run has the range, and else nothing
  byte_part : (byte code mark : ℕ) → byte < 2 ^ 8 → mark ≤ 1 → (mark ≡ 1 → byte ≡ code) → bit_and byte (255 * mark) ≡ code * mark
  byte_part byte code zero fits few same = and_zero_r byte ∙ omega arith
  byte_part byte code (suc zero) fits few same = and_mask byte 8 ∙ (let e = same refl in omega (arith, fits, e))
  byte_part byte code (suc (suc mark)) fits few same = absurd (omega (arith, few))

  code_sum : (code high low : ℕ) → code * high * 2 ^ 8 + code * low ≡ code * (high * 2 ^ 8 + low)
  code_sum code high low = sym (mul-add code (high * 2 ^ 8) low ∙ ap (λ x. x + code * low) (by code high))
    where
      by : (c h : ℕ) → c * (h * 2 ^ 8) ≡ c * h * 2 ^ 8
      by c h = ap (λ x. c * x) (mul_comm h (2 ^ 8)) ∙ mul_left_comm c (2 ^ 8) h ∙ mul_comm (2 ^ 8) (c * h)

  later_byte : (value j : ℕ) → byte_at (value / 2 ^ 8) j ≡ byte_at value (j + 1)
  later_byte value j = ap (λ x. x % 2 ^ 8) (shr-shr value 8 (8 * j)) ∙ (let e : 8 + 8 * j ≡ 8 * (j + 1) = omega arith in ap (λ k. value / 2 ^ k % 2 ^ 8) e)

  pub marks_part : (count at value code : ℕ) → ((j : ℕ) → j < count → in_run first end (at + j) ≡ 1 → byte_at value j ≡ code) → bit_and value (255 * marks count at) ≡ code * marks count at
  marks_part zero at value code same = and_zero_r value ∙ omega arith
  marks_part (suc count) at value code same =
      let split : value ≡ value / 2 ^ 8 * 2 ^ 8 + value % 2 ^ 8 = omega arith in
      let zeroth : at + 0 ≡ at = omega arith in
      let lowest : byte_at value 0 ≡ value % 2 ^ 8 = first_byte value in
      let later = marks_part count (at + 1) (value / 2 ^ 8) code (λ j less one.
      let e : at + 1 + j ≡ at + (j + 1) = omega arith in
      later_byte value j ∙ same (j + 1) (omega (arith, less)) (sym (ap (in_run first end) e) ∙ one)) in
      let here = byte_part (value % 2 ^ 8) code (in_run first end at) (omega arith) (in_run_small at) (λ one. sym lowest ∙ same 0 (omega arith) (ap (in_run first end) zeroth ∙ one)) in
      ap (λ v. bit_and v (255 * marks (suc count) at)) split
      ∙ ap (bit_and (value / 2 ^ 8 * 2 ^ 8 + value % 2 ^ 8)) (scaled count at)
      ∙ and_block 8 (value / 2 ^ 8) (255 * marks count (at + 1)) (value % 2 ^ 8) (255 * in_run first end at) (omega arith) (mark_fits at)
      ∙ rw (later, here) (code_sum code (marks count (at + 1)) (in_run first end at))
    where
      first_byte : (v : ℕ) → byte_at v 0 ≡ v % 2 ^ 8
      first_byte v = ap (λ x. x % 2 ^ 8) (div_one v)
        where
          div_one : (x : ℕ) → x / 2 ^ 0 ≡ x
          div_one x = omega arith

  -- a bit of a range that the run has is shown
  pub marks_show : (count at i : ℕ) → i < 8 * count → in_run first end (at + i / 8) ≡ 1 → bit_at (255 * marks count at) i ≡ 1
  marks_show zero at i less one = absurd (omega (arith, less))
  marks_show (suc count) at i less one = ap (λ x. bit_at x i) (scaled count at) ∙ elim (cases_lt i 8) [
    | inl low ↦
        let place : at + i / 8 ≡ at = omega (arith, low) in
        let mark : in_run first end at ≡ 1 = ap (in_run first end) (sym place) ∙ one in
        bit_at_cat_low (255 * marks count (at + 1)) 8 (255 * in_run first end at) i low ∙ ap (λ m. bit_at (255 * m) i) mark ∙ bit_at_ones 8 i low
    | inr high ↦
        let place : at + i / 8 ≡ at + 1 + (i - 8) / 8 = omega (arith, high) in
        bit_at_cat_high (255 * marks count (at + 1)) 8 (255 * in_run first end at) i (mark_fits at) high
        ∙ marks_show count (at + 1) (i - 8) (omega (arith, less, high)) (ap (in_run first end) (sym place) ∙ one)
  ]

  pub marks_fit : (at : ℕ) → 255 * marks 8 at < 2 ^ 64
  marks_fit at = marks_small 8 at
