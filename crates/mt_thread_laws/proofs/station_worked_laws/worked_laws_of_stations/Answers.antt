use Rattle.std.proofs.Common.{◌∙◌, ap, refl, sym}
use Rattle.std.specs.Prelude.{length}
use Rattle.mt_machine.specs.System.{now}
use Rattle.mt_rendezvous.specs.declared.view.Start.{Start}
use Rattle.mt_rendezvous.specs.Station.{broadcast}
use Rattle.mt_thread_laws.specs.WorkedLone.{arrived_again}
use Rattle.mt_thread_laws.proofs.OnLone.{again_meets}
use Rattle.mt_thread_laws.proofs.station_worked_laws.worked_laws_of_stations.Goals as goal

pub returns-clause-led : goal.returns-clause-led
returns-clause-led c = λ law key is. (again_meets key is, law key (arrived_again key) (again_meets key is))

pub returns-clause-one : goal.returns-clause-one
returns-clause-one c = λ law key m n. law key (arrived_again key) m n

pub returns-clause-holds : goal.returns-clause-holds
returns-clause-holds c = λ law key is.
    let told = law key (arrived_again key) (again_meets key is) (ap (λ (t : Start). length t.cpus) (sym is)) in (
      again_meets key is,
      told.0,
      told.1 0x100008 refl ∙ ap (λ (t : Start). now (broadcast t).system 0x100008) is,
      told.1 0x100010 refl ∙ ap (λ (t : Start). now (broadcast t).system 0x100010) is,
    )
