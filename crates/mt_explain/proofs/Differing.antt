-- The differences of two files, from one number on.
use Rattle.std.proofs.Common.{◌≡◌, ◌∙◌, ℕ, ◌+◌, ◌<◌, ◌≤◌, ◌⊎◌, List, [], ◌∷◌, Option, Some, None, false, ◌==◌, sym, ap, subst, inl, inr, arith, refl}
use Rattle.std.specs.Option.{option_map}
use Rattle.std.proofs.lemmas.Bool.{cases_lt}
use Rattle.std.proofs.lemmas.Bool.Decides.{nat_tests}
use Rattle.mt_regs.specs.declared.registers.Register.{Register}
use Rattle.mt_regs.specs.RegisterFile.{IsRegisterFile, RegisterFile}
use Rattle.mt_regs.specs.Registers.{register_of, value_at, value_of}
use Rattle.mt_regs.proofs.ByNumber.{register_of-range}
use Rattle.mt_explain.specs.declared.difference.Difference.{Difference}
use Rattle.mt_explain.specs.Differences.{AgreeAt, AreDifferencesFrom, IsDifference}

-- no register has a number below the capability register's, or behind the last one
no_register : (f : RegisterFile) → IsRegisterFile f → (number : ℕ) → (number < 0xfe) ⊎ (0x300 ≤ number) → value_at f number ≡ None
no_register f is number out = rw (apart number out) (by (register_of f number) refl)
  where
    apart : (n : ℕ) → (n < 0xfe) ⊎ (0x300 ≤ n) → (n == 0xfe) ≡ false
    apart n (inl below) = grind (arith, nat_tests, below)
    apart n (inr above) = grind (arith, nat_tests, above)

    outside : (n : ℕ) → (n < 0xfe) ⊎ (0x300 ≤ n) → 0x200 ≤ n → n < 0x300 → ⊥
    outside n (inl below) low high = omega (arith, below, low)
    outside n (inr above) low high = omega (arith, above, high)

    by : (found : Option Register) → register_of f number ≡ found → option_map (value_of f) (register_of f number) ≡ None
    by None none = ap (option_map (value_of f)) none
    by (Some r) some = let range = register_of-range f number r is some in absurd (outside number out range.0 range.1)

-- the same differences from a lower number on, where the files agree up to the old one
from_lower : (old new : RegisterFile) (low mid : ℕ) (ds : List Difference) → low ≤ mid → AgreeAt old new low mid → AreDifferencesFrom old new mid ds → AreDifferencesFrom old new low ds
from_lower old new low mid [] order agree are = λ number from. elim (cases_lt number mid) [
  | inl below ↦ agree number from below
  | inr above ↦ are number above
]
from_lower old new low mid (d ∷ ds) order agree are = (
  omega (arith, order, are.0),
  λ number from to. elim (cases_lt number mid) [
    | inl below ↦ agree number from below
    | inr above ↦ are.1 number above to
  ],
  are.2,
  are.3,
)

module _ (old new : RegisterFile) (is_old : IsRegisterFile old) (is_new : IsRegisterFile new) where
  pub from_first : (ds : List Difference) → AreDifferencesFrom old new 0xfe ds → AreDifferencesFrom old new 0 ds
  from_first ds are =
      from_lower old new 0 0xfe ds (omega arith) (λ number from to. no_register old is_old number (inl to) ∙ sym (no_register new is_new number (inl to))) are

  pub past_last : AreDifferencesFrom old new 0x300 []
  past_last number from = no_register old is_old number (inr from) ∙ sym (no_register new is_new number (inr from))

-- at a number at which the files agree
pub passed : (old new : RegisterFile) (number : ℕ) (a b : Option ℕ) (ds : List Difference) → a ≡ value_at old number → b ≡ value_at new number → a ≡ b
    → AreDifferencesFrom old new (number + 1) ds → AreDifferencesFrom old new number ds
passed old new number a b ds a_is b_is same are = from_lower old new number (number + 1) ds (omega arith) (λ other from to. here other (omega (arith, from, to))) are
  where
    here : (other : ℕ) → number ≡ other → value_at old other ≡ value_at new other
    here other e = let P : ℕ → Type 0 = λ n. value_at old n ≡ value_at new n in subst P e (sym a_is ∙ same ∙ b_is)

-- at a number at which they differ
pub added : (old new : RegisterFile) (d : Difference) (ds : List Difference) → IsDifference old new d → AreDifferencesFrom old new (d.msr + 1) ds → AreDifferencesFrom old new d.msr (d ∷ ds)
added old new d ds is are = (omega arith, λ number from to. absurd (omega (arith, from, to)), is, are)
