-- A station can be gathered from the worked start.
use Rattle.std.proofs.Common.{rules}
use Rattle.mt_rendezvous.specs.Station.{Begins}
use Rattle.mt_thread_laws.specs.WorkedStations.{start}

pub begins_start : Begins start
begins_start = search rules
