use Rattle.std.proofs.Common.{Some, refl, subst, sym}
use mathlib.Core.Option.{none}
use Rattle.atomic_table.specs.Table.{step}
use Rattle.mt_machine.specs.declared.phase.Phase.TheVariants.{Arrived2}
use Rattle.mt_rendezvous.specs.declared.view.Start.{Start}
use Rattle.mt_rendezvous.specs.Station.{start_of}
use Rattle.mt_rendezvous.specs.Plays.{TellsSeatStep}
use Rattle.mt_thread_laws.specs.WorkedLone.{again, arrived_again, changed, free, lone, pass_of, sits}
use Rattle.mt_thread_laws.specs.WorkedStations.{bare}
use Rattle.mt_thread_laws.proofs.LonePlays.{releases}
use Rattle.mt_thread_laws.proofs.OnLone.{again_meets}
use Rattle.mt_thread_laws.proofs.station_worked_laws.worked_law_of_every_step.Goals as goal

tells : TellsSeatStep (step 0 1 0 0 none) (sits lone again) 1 (bare (pass_of lone (Some 1) free))
tells = (record { number = 0; cpu = changed Arrived2; holds = refl; phase = refl }, releases)

pub returns-clause-released : goal.returns-clause-released
returns-clause-released c = λ law key is. (
  again_meets key is,
  law key (arrived_again key) (again_meets key is) 1 1 0 (sits (start_of key) again) (bare (pass_of (start_of key) (Some 1) free)) refl
      (subst (λ (t : Start). TellsSeatStep (step 0 1 0 0 none) (sits t again) 1 (bare (pass_of t (Some 1) free))) (sym is) tells),
)

pub returns-clause-shown : goal.returns-clause-shown
returns-clause-shown c = λ law. (law 1 0 1 (sits lone again) (bare (pass_of lone (Some 1) free)) tells).0 refl refl
