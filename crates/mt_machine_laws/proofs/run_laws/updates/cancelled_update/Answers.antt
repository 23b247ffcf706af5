use Rattle.mt_laws.proofs.Updates.Cancelled.{cancelled_update}
use Rattle.mt_laws.proofs.Barrier.Takes.{takes_at_most_once}
use Rattle.mt_machine_laws.proofs.run_laws.updates.cancelled_update.Goals as goal

pub returns-clause-fences : goal.returns-clause-fences
returns-clause-fences c = cancelled_update

pub returns-clause-takes : goal.returns-clause-takes
returns-clause-takes c = takes_at_most_once
