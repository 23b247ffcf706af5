use Rattle.mt_thread_laws.proofs.OnLone.{cancelled_meets, restored_meets}
use Rattle.mt_thread_laws.proofs.TwoAtOnce.{frees_at_once, leaves_at_once}
use Rattle.mt_thread_laws.proofs.station_worked_laws.worked_steps_at_once.Goals as goal

pub returns-clause-cancelled : goal.returns-clause-cancelled
returns-clause-cancelled c = cancelled_meets

pub returns-clause-leaves : goal.returns-clause-leaves
returns-clause-leaves c = leaves_at_once

pub returns-clause-restored : goal.returns-clause-restored
returns-clause-restored c = restored_meets

pub returns-clause-released : goal.returns-clause-released
returns-clause-released c = frees_at_once
