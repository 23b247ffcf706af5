use Rattle.mt_replay_laws.proofs.Refusals.Calls.{accepted_calls, accepted_where_idle}
use Rattle.mt_replay_laws.proofs.Refusals.Updates.{complete_updates_settle}
use Rattle.mt_replay_laws.proofs.statuses.complete_updates_settle.Goals as goal

pub returns-clause-accepted : goal.returns-clause-accepted
returns-clause-accepted c = accepted_where_idle

pub returns-clause-called : goal.returns-clause-called
returns-clause-called c = accepted_calls

pub returns-clause-settled : goal.returns-clause-settled
returns-clause-settled c = complete_updates_settle
