use Rattle.mt_replay_laws.proofs.Refusals.Calls.{calls_under_way_change_nothing, refused_calls_change_nothing}
use Rattle.mt_replay_laws.proofs.statuses.refused_calls_change_nothing.Goals as goal

pub returns-clause-refused : goal.returns-clause-refused
returns-clause-refused c = refused_calls_change_nothing

pub returns-clause-under_way : goal.returns-clause-under_way
returns-clause-under_way c = calls_under_way_change_nothing
