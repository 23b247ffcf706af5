use Rattle.std.proofs.Common.{◌≡◌, ap, arith, refl, ℕ, ◌+◌, ◌≤◌, zero, suc, [], ◌∷◌, Option, None, Some, slice_get}
use Rattle.mt_machine.specs.System.{Processor}
use Rattle.mt_machine_laws.specs.MachineWorkedRuns.{idle}
use Rattle.mt_machine_laws.proofs.core_worked.worked_rises.Goals as goal

abbrev era_of : Option Processor → ℕ
era_of None = 0
era_of (Some p) = p.era

pub returns-clause-risen : goal.returns-clause-risen
returns-clause-risen c = record { same_number = refl; eras = risen }
  where
    risen : (k : ℕ) (p q : Processor) → slice_get (idle ∷ idle ∷ []) k ≡ Some p → slice_get (record idle { era = 1 } ∷ idle ∷ []) k ≡ Some q → q.era ≤ p.era + 1
    risen zero p q was is = let e : 1 ≡ q.era = ap era_of is in omega arith
    risen (suc zero) p q was is = let e : 0 ≡ q.era = ap era_of is in omega arith
    risen (suc (suc k)) p q was is = let e : None ≡ Some p = was in absurd (cc e)

pub returns-clause-by_two : goal.returns-clause-by_two
returns-clause-by_two c = λ h. omega (arith, h.eras 0 idle (record idle { era = 2 }) refl refl)

pub returns-clause-one_less : goal.returns-clause-one_less
returns-clause-one_less c = λ h. let e : 1 ≡ 2 = h.same_number in omega (arith, e)
