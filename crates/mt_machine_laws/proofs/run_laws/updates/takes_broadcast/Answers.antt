use Rattle.mt_laws.proofs.Updates.ToBroadcast.{takes_broadcast, updated_from_broadcast}
use Rattle.mt_machine_laws.proofs.run_laws.updates.takes_broadcast.Goals as goal

pub returns-clause-leads : goal.returns-clause-leads
returns-clause-leads c = takes_broadcast

pub returns-clause-updated : goal.returns-clause-updated
returns-clause-updated c = updated_from_broadcast
