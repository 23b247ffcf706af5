use Rattle.std.proofs.Common.{◌≡◌, ◌∙◌, sym, ap, refl, ℕ, Bool, true, false, true≢false, List, [], ◌∷◌, ◌++◌, Some}
use Rattle.std.specs.Prelude.{is_some}
use Rattle.mt_machine.specs.declared.event.Event.TheVariants.{Arrive, Pass, Release, Take}
use Rattle.mt_machine.specs.Machine.{Goes, Machine, MachineEvent, Steps}
use Rattle.mt_machine.specs.Update.{is_release}
use Rattle.mt_machine_laws.specs.RunWorkedRuns.{between_of_bare}
use Rattle.mt_core.specs.Rounds.{EndsByRelease}
use Rattle.mt_machine_laws.proofs.OnWorked.{call_is_enabled}
use Rattle.mt_machine_laws.proofs.core_worked.worked_updates_by_events.Goals as goal

abbrev is_last_release : List MachineEvent → Bool
is_last_release [] = false
is_last_release (e ∷ []) = is_release e
is_last_release (e ∷ f ∷ es) = is_last_release (f ∷ es)

ends_so : (front : List MachineEvent) (k : ℕ) → is_last_release (front ++ Steps k Release ∷ []) ≡ true
ends_so [] k = refl
ends_so (e ∷ []) k = refl
ends_so (e ∷ f ∷ front) k = ends_so (f ∷ front) k

not_by : (es : List MachineEvent) → is_last_release es ≡ false → EndsByRelease es → ⊥
not_by es other (front, k, is) = true≢false (sym (ends_so front k) ∙ ap is_last_release (sym is) ∙ other)

pub returns-clause-ends : goal.returns-clause-ends
returns-clause-ends c = (Goes ∷ [], 1, refl)

pub returns-clause-not_last : goal.returns-clause-not_last
returns-clause-not_last c = not_by (Steps 0 Release ∷ Goes ∷ []) refl

pub returns-clause-by_events : goal.returns-clause-by_events
returns-clause-by_events c = record {
  enabled = (call_is_enabled, (refl, (refl, (refl, (refl, (refl, (refl, (refl, (refl, (refl, (refl, (refl, (refl, (refl, (refl, (refl, (refl, tt)))))))))))))))));
  led = refl;
  leads = refl;
  last = λ some. (Goes ∷ Steps 0 Take ∷ between_of_bare, 0, refl);
}

pub returns-clause-not_enabled : goal.returns-clause-not_enabled
returns-clause-not_enabled c = λ h. let e : Some Arrive ≡ Some Pass = h.enabled.1.1.1.0 in absurd (cc e)

pub returns-clause-access : goal.returns-clause-access
returns-clause-access c = λ h. let e : false ≡ true = h.led in absurd (cc e)

pub returns-clause-one_alone : goal.returns-clause-one_alone
returns-clause-one_alone c = λ h. true≢false (ap (λ (m : Machine). is_some m.order) h.leads)
