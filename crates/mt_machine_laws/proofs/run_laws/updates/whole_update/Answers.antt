use Rattle.mt_laws.proofs.Updates.Whole.{whole_update}
use Rattle.mt_laws.proofs.Barrier.Takes.{takes_once}
use Rattle.mt_machine_laws.proofs.run_laws.updates.whole_update.Goals as goal

pub returns-clause-outright : goal.returns-clause-outright
returns-clause-outright c = whole_update

pub returns-clause-takes : goal.returns-clause-takes
returns-clause-takes c = takes_once
