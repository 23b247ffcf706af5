use Rattle.std.proofs.Common.{◌≡◌, refl, false, true}
use Rattle.mt_machine.specs.declared.event.Event.TheVariants.{Take}
use Rattle.mt_core.specs.declared.stepped.Stepped.TheVariants.{Did, NoUpdate}
use Rattle.mt_machine_laws.proofs.core_worked.worked_stops.Goals as goal

pub returns-clause-stops : goal.returns-clause-stops
returns-clause-stops c = (λ is. (refl, refl), λ runs outside. refl)

pub returns-clause-not_running : goal.returns-clause-not_running
returns-clause-not_running c = λ h. let e : false ≡ true = (h.0 refl).0 in absurd (cc e)

pub returns-clause-not_outside : goal.returns-clause-not_outside
returns-clause-not_outside c = λ h. let e : false ≡ true = (h.0 refl).1 in absurd (cc e)

pub returns-clause-does_an_event : goal.returns-clause-does_an_event
returns-clause-does_an_event c = λ h. let e : Did Take ≡ NoUpdate = h.1 refl refl in absurd (cc e)
