use Rattle.mt_laws.proofs.Updates.Broadcast.{cancelled_broadcast}
use Rattle.mt_machine_laws.proofs.run_laws.updates.cancelled_broadcast.Goals as goal

pub returns : goal.returns
returns c = cancelled_broadcast
