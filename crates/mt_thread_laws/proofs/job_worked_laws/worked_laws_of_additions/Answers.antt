use Rattle.std.proofs.Common.{◌∷◌, [], arith, refl}
use Rattle.mt_machine.specs.declared.go.Go.TheVariants.{Given, Pending}
use Rattle.mt_machine.specs.declared.phase.Phase.TheVariants.{Arrived, Restored, Taken}
use Rattle.mt_thread_laws.specs.WorkedWay.{changed, guest}
use Rattle.mt_thread_laws.specs.WorkedYard.{alone}
use Rattle.mt_thread_laws.proofs.LoneGuest.{arrived_yard, restored_yard, taken_yard}
use Rattle.mt_rendezvous.specs.declared.view.Added.TheVariants.{Never, Once}
use Rattle.mt_thread_laws.proofs.job_worked_laws.worked_laws_of_additions.Goals as goal

pub returns-clause-arrives : goal.returns-clause-arrives
returns-clause-arrives c = λ law.
    let y = taken_yard in
    (y.0, y.1, (law alone (guest Taken Never ∷ []) Pending 0 0 y.0 0 (guest Taken Never) y.1 (record { at = refl; has_added = refl }) refl).0 (omega arith))

pub returns-clause-decides : goal.returns-clause-decides
returns-clause-decides c = λ law. let y = arrived_yard in let says = law alone (guest Arrived Once ∷ []) 1 0 y.0 y.1 in (y.0, y.1, says.0, says.1)

pub returns-clause-arrives_again : goal.returns-clause-arrives_again
returns-clause-arrives_again c = λ law.
    let y = restored_yard in
    (y.0, y.1, law alone (changed Restored Once ∷ []) Given 2 0 y.0 0 (changed Restored Once) y.1 (record { at = refl; has_added = refl }) refl)
