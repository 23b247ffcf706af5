use Rattle.mt_rendezvous.proofs.Begun.{broadcast_begins}
use Rattle.mt_thread_laws.proofs.station_laws.broadcast_begins.Goals as goal

pub returns : goal.returns
returns c = broadcast_begins
