use Rattle.std.proofs.Common.{◌≡◌, arith, refl, ⊎_elim, inl}
use Rattle.mt_machine.specs.declared.event.Event.TheVariants.{Arrive}
use Rattle.mt_machine_laws.specs.RunWorkedRuns.{pair_order}
use Rattle.mt_core.specs.declared.stepped.Stepped.TheVariants.{Did, Waits}
use Rattle.mt_machine_laws.proofs.core_worked.worked_waits.Goals as goal

pub returns-clause-waits : goal.returns-clause-waits
returns-clause-waits c = (λ is. (pair_order, refl, inl (refl, refl, refl, omega arith)), λ o is w. refl)

pub returns-clause-answers_alone : goal.returns-clause-answers_alone
returns-clause-answers_alone c = λ h. ⊎_elim (λ w. absurd (cc w.0)) (λ w. absurd (cc w.0)) (h.0 refl).2

pub returns-clause-does_an_event : goal.returns-clause-does_an_event
returns-clause-does_an_event c = λ h. let e : Did Arrive ≡ Waits 2 3 = h.1 pair_order refl (inl (refl, refl, refl, omega arith)) in absurd (cc e)
