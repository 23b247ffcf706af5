use Rattle.mt_replay_laws.proofs.Courses.Absences.{absent_do_nothing, absent_where_no_processor}
use Rattle.mt_replay_laws.proofs.statuses.absent_processors_do_nothing.Goals as goal

pub returns-clause-nothing : goal.returns-clause-nothing
returns-clause-nothing c = absent_do_nothing

pub returns-clause-exactly : goal.returns-clause-exactly
returns-clause-exactly c = absent_where_no_processor
