use Rattle.std.proofs.Common.{◌≡◌, ◌+◌, inr, length, refl, subst, sym, arith}
use mathlib.Core.Option.{none}
use Rattle.atomic_table.specs.Table.{step}
use Rattle.mt_machine.specs.declared.phase.Phase.TheVariants.{Arrived, Taken}
use Rattle.mt_rendezvous.specs.declared.view.Start.{Start}
use Rattle.mt_rendezvous.specs.Station.{start_of}
use Rattle.mt_rendezvous.specs.Plays.{Arrives, Passes}
use Rattle.mt_thread_laws.specs.WorkedLone.{arrived, come, gone, new, sits, taken}
use Rattle.mt_thread_laws.specs.WorkedStations.{first}
use Rattle.mt_thread_laws.proofs.LonePlays.{arrives, passes}
use Rattle.mt_thread_laws.proofs.OnLone.{arrived_meets, taken_meets}
use Rattle.mt_thread_laws.proofs.station_worked_laws.worked_laws_of_the_first_barrier.Goals as goal

pub returns-clause-arrive : goal.returns-clause-arrive
returns-clause-arrive c = λ law key is. (
  taken_meets key is,
  (law key (taken key) (taken_meets key is) 1 0 (first Taken) (sits (start_of key) new) (sits (start_of key) come) (record { at = refl; holds = refl }) refl
      (subst (λ (t : Start). Arrives (step 0 0 1 0 none) (sits t new) 0 (sits t come)) (sym is) arrives)).0 (omega arith),
)

pub returns-clause-pass : goal.returns-clause-pass
returns-clause-pass c = λ law key is. (
  arrived_meets key is,
  (law key (arrived key) (arrived_meets key is) 1 0 (first Arrived) (sits (start_of key) come) (sits (start_of key) gone) (record { at = refl; holds = refl }) (inr refl)
      (subst (λ (t : Start). Passes (step 0 0 0 0 none) (sits t come) 2 (sits t gone)) (sym is) passes)).0 (subst (λ (t : Start). 2 ≡ length t.cpus + 1) (sym is) refl),
)
