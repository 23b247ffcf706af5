use Rattle.mt_replay_laws.proofs.Refusals.Joins.{joins_settle}
use Rattle.mt_replay_laws.proofs.statuses.processors_join_settled.Goals as goal

pub returns : goal.returns
returns c = joins_settle
