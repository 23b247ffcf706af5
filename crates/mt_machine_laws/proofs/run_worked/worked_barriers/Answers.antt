use Rattle.std.proofs.Common.{◌≡◌, ℕ, zero, suc, Bool, true, false, refl, ap, Option, None, Some, [], ◌∷◌}
use Rattle.mt_machine.specs.System.{Processor}
use Rattle.mt_machine.specs.declared.op.Op.TheVariants.{Fence}
use Rattle.mt_machine.specs.declared.control.Control.TheVariants.{Cr3}
use Rattle.mt_machine.specs.declared.phase.Phase.TheVariants.{Arrived, NoFill, Passed, Restored, Taken}
use Rattle.mt_machine.specs.Access.{Answered}
use Rattle.mt_machine.specs.Machine.{Order, has_passed, has_released}
use Rattle.mt_machine_laws.specs.MachineWorkedRuns.{call_order, calling, idle}
use Rattle.mt_laws.specs.Barriers.{IsAt}
use Rattle.mt_machine_laws.specs.RunWorkedRuns.{pair_order}
use Rattle.mt_machine_laws.proofs.run_worked.worked_barriers.Goals as goal

abbrev arrived : Processor
arrived = record idle { phase = Arrived }

abbrev passed_in : Option Order → Option Processor → Bool
passed_in None x = false
passed_in (Some o) None = false
passed_in (Some o) (Some p) = has_passed o p

abbrev released_in : Option Order → Option Processor → Bool
released_in None x = false
released_in (Some o) None = false
released_in (Some o) (Some p) = has_released o p

none_passed : (o : Order) (i : ℕ) (p : Processor) → Some pair_order ≡ Some o → IsAt (calling pair_order (arrived ∷ [])) i p → has_passed o p ≡ true → ⊥
none_passed o zero p is at passed = let e : false ≡ has_passed o p = λ i. passed_in (is i) (at i) in absurd (cc)
none_passed o (suc i) p is at passed = absurd (cc at)

none_released : (o : Order) (i : ℕ) (p : Processor) → Some pair_order ≡ Some o → IsAt (calling pair_order (arrived ∷ [])) i p → has_released o p ≡ true → ⊥
none_released o zero p is at released = let e : false ≡ has_released o p = λ i. released_in (is i) (at i) in absurd (cc)
none_released o (suc i) p is at released = absurd (cc at)

pub returns-clause-hold : goal.returns-clause-hold
returns-clause-hold c = record {
  first = λ o i j p q is at at_q passed. absurd (none_passed o i p is at passed);
  given = λ o i p is at passed. absurd (none_passed o i p is at passed);
  second = λ o i j p q is at at_q released. absurd (none_released o i p is at released);
}

pub returns-clause-one_not_arrived : goal.returns-clause-one_not_arrived
returns-clause-one_not_arrived c = λ h. absurd (cc (h.first pair_order 0 1 (record idle { phase = Passed }) (record idle { phase = Taken }) refl refl refl refl))

pub returns-clause-not_given : goal.returns-clause-not_given
returns-clause-not_given c = λ h. absurd (cc (h.given call_order 0 (record idle { phase = Passed }) refl refl refl))

pub returns-clause-one_not_arrived_again : goal.returns-clause-one_not_arrived_again
returns-clause-one_not_arrived_again c = λ h. absurd (cc (h.second pair_order 0 1 (record idle { era = 1 }) (record idle { phase = Restored }) refl refl refl refl))

pub returns-clause-one_runs : goal.returns-clause-one_runs
returns-clause-one_runs c = λ h. absurd (cc (h 0 1 (record idle { phase = NoFill }) idle refl refl refl))

pub returns-clause-one_acts : goal.returns-clause-one_acts
returns-clause-one_acts c = λ h. absurd (cc (ap (λ (x : Answered). x.answer) (h 0 1 (record idle { phase = NoFill }) Fence Cr3 refl refl).0))
