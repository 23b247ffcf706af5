use Rattle.std.proofs.Common.{◌∷◌, [], arith, inl, refl}
use Rattle.mt_machine.specs.declared.go.Go.TheVariants.{Cancelled, Given, Pending}
use Rattle.mt_machine.specs.declared.phase.Phase.TheVariants.{Arrived, Arrived2, Running, Taken}
use Rattle.mt_thread_laws.specs.WorkedWay.{changed, guest}
use Rattle.mt_thread_laws.specs.WorkedYard.{alone}
use Rattle.mt_thread_laws.proofs.LoneGuest.{again_yard, arrived_yard, at_rest_yard, given_yard, late_yard}
use Rattle.mt_rendezvous.specs.declared.view.Added.TheVariants.{Never, Once, Twice}
use Rattle.mt_thread_laws.proofs.job_worked_laws.worked_laws_of_loads.Goals as goal

pub returns-clause-takes : goal.returns-clause-takes
returns-clause-takes c = λ law.
    let y = at_rest_yard in
    (y.0, y.1, law alone (guest Running Never ∷ []) Pending 0 0 y.0 0 (guest Running Never) y.1 (record { at = refl; has_added = refl }) refl (omega arith))

pub returns-clause-stays : goal.returns-clause-stays
returns-clause-stays c = λ law. let y = arrived_yard in (y.0, y.1, law alone (guest Arrived Once ∷ []) Pending 1 0 y.0 0 (guest Arrived Once) y.1 refl)

pub returns-clause-passes : goal.returns-clause-passes
returns-clause-passes c = λ law.
    let y = given_yard in
    (y.0, y.1, law alone (guest Arrived Once ∷ []) Given 2 0 y.0 0 (guest Arrived Once) y.1 (record { at = refl; has_added = refl }) refl refl)

pub returns-clause-leaves : goal.returns-clause-leaves
returns-clause-leaves c = λ law.
    let y = late_yard in
    (y.0, y.1, law alone (guest Taken Once ∷ []) Cancelled 0x100000001 0 y.0 0 (guest Taken Once) y.1 (record { at = refl; has_added = refl }) (inl refl) (omega arith))

pub returns-clause-releases : goal.returns-clause-releases
returns-clause-releases c = λ law.
    let y = again_yard in
    (y.0, y.1, law alone (changed Arrived2 Twice ∷ []) Given 2 1 y.0 0 (changed Arrived2 Twice) y.1 (record { at = refl; has_added = refl }) refl refl)
