use Rattle.mt_thread_laws.proofs.Residents.Ends.{left_where_cancelled, released_where_full}
use Rattle.mt_thread_laws.proofs.yard_laws.runners_tell_of_the_yard.Goals as goal

pub returns-clause-left : goal.returns-clause-left
returns-clause-left c = left_where_cancelled

pub returns-clause-released : goal.returns-clause-released
returns-clause-released c = released_where_full
