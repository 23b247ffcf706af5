use Rattle.mt_laws.proofs.Updates.Broadcast.{broadcast_update}
use Rattle.mt_machine_laws.proofs.run_laws.updates.broadcast_update.Goals as goal

pub returns : goal.returns
returns c = broadcast_update
