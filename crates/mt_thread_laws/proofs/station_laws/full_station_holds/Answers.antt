use Rattle.mt_rendezvous.proofs.Unique.{holds_where_full}
use Rattle.mt_thread_laws.proofs.station_laws.full_station_holds.Goals as goal

pub returns : goal.returns
returns c = holds_where_full
