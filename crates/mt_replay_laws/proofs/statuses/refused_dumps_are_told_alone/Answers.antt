use Rattle.mt_replay.proofs.Refusals.Outcomes.{refused_alone, refused_where_file_is_refused}
use Rattle.mt_replay_laws.proofs.statuses.refused_dumps_are_told_alone.Goals as goal

pub returns-clause-exactly : goal.returns-clause-exactly
returns-clause-exactly c = refused_where_file_is_refused

pub returns-clause-alone : goal.returns-clause-alone
returns-clause-alone c = refused_alone
