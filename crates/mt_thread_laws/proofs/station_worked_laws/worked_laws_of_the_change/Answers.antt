use Rattle.std.proofs.Common.{◌≡◌, Some, length, refl, subst, sym}
use mathlib.Core.Option.{none}
use Rattle.atomic_table.specs.Table.{step}
use Rattle.mt_machine.specs.declared.phase.Phase.TheVariants.{Arrived2, Passed, Restored}
use Rattle.mt_rendezvous.specs.declared.view.Start.{Start}
use Rattle.mt_rendezvous.specs.Station.{start_of}
use Rattle.mt_rendezvous.specs.Plays.{ArrivesAgain, Releases, Works}
use Rattle.mt_thread_laws.specs.WorkedLone.{again, arrived_again, back, changed, fills, free, gone, pass_of, passed, restored, sits}
use Rattle.mt_thread_laws.specs.WorkedStations.{bare, first}
use Rattle.mt_thread_laws.proofs.LonePlays.{arrives_again, releases, works}
use Rattle.mt_thread_laws.proofs.OnLone.{again_meets, passed_meets, restored_meets}
use Rattle.mt_thread_laws.proofs.station_worked_laws.worked_laws_of_the_change.Goals as goal

pub returns-clause-phase : goal.returns-clause-phase
returns-clause-phase c = λ law key is. (
  passed_meets key is,
  law key (passed key) (passed_meets key is) 1 0 (first Passed) (sits (start_of key) gone) (sits (start_of key) fills) (record { at = refl; holds = refl }) 2 1 refl (refl, refl)
      (subst (λ (t : Start). Works (step 0 2 1 0 none) (sits t gone) 1 (sits t fills)) (sym is) works),
)

pub returns-clause-arrive_again : goal.returns-clause-arrive_again
returns-clause-arrive_again c = λ law key is. (
  restored_meets key is,
  law key (restored key) (restored_meets key is) 1 0 (changed Restored) (sits (start_of key) back) (sits (start_of key) again) (record { at = refl; holds = refl }) refl
      (subst (λ (t : Start). ArrivesAgain (step 0 1 1 0 none) (sits t back) 0 (sits t again)) (sym is) arrives_again),
)

pub returns-clause-release : goal.returns-clause-release
returns-clause-release c = λ law key is. (
  again_meets key is,
  (law key (arrived_again key) (again_meets key is) 1 0 (changed Arrived2) (sits (start_of key) again) (bare (pass_of (start_of key) (Some 1) free)) (record { at = refl; holds = refl }) refl
      (subst (λ (t : Start). Releases (step 0 1 0 0 none) (sits t again) 1 (bare (pass_of t (Some 1) free))) (sym is) releases)).0
      (subst (λ (t : Start). 1 ≡ length t.cpus) (sym is) refl),
)
