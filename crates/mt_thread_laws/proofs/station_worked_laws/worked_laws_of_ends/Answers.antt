use Rattle.std.proofs.Common.{refl, None, Some}
use Rattle.mt_machine.specs.declared.go.Go.TheVariants.{Pending}
use Rattle.mt_machine.specs.declared.phase.Phase.TheVariants.{Running}
use Rattle.mt_rendezvous.specs.Station.{broadcast, held, order_of, start_of}
use Rattle.mt_thread_laws.specs.WorkedLone.{ended, left, pass_of, released}
use Rattle.mt_thread_laws.specs.WorkedStations.{first, start}
use Rattle.mt_thread_laws.proofs.OnLone.{ended_meets, left_meets}
use Rattle.mt_thread_laws.proofs.WorkedStart.{begins_start}
use Rattle.mt_rendezvous.specs.declared.view.Added.TheVariants.{Once, Twice}
use Rattle.mt_thread_laws.proofs.station_worked_laws.worked_laws_of_ends.Goals as goal

pub returns-clause-left : goal.returns-clause-left
returns-clause-left c = λ law key is.
    let told = law key (left key) (left_meets key is) 1 0 (pass_of (start_of key) None (held 0 (first Running) Once)) (first Running) refl refl refl in (left_meets key is, told.0, told.1)

pub returns-clause-released : goal.returns-clause-released
returns-clause-released c = λ law key is.
    let told = law key (ended key) (ended_meets key is) 1 0 (pass_of (start_of key) (Some 1) (held 0 released Twice)) released refl refl refl in (ended_meets key is, told.0, told.1)

pub returns-clause-begins : goal.returns-clause-begins
returns-clause-begins c = λ law. law (broadcast start) (order_of start Pending) begins_start.broadcasts begins_start.room
