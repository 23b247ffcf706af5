use Rattle.mt_thread_laws.proofs.Seats.{left_where_cancelled, released_where_full}
use Rattle.mt_thread_laws.proofs.station_laws.ended_seats_tell_of_the_station.Goals as goal

pub returns-clause-left : goal.returns-clause-left
returns-clause-left c = left_where_cancelled

pub returns-clause-released : goal.returns-clause-released
returns-clause-released c = released_where_full
