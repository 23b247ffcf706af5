use Rattle.mt_replay.proofs.Refusals.Outcomes.{accepted_first, accepted_unless_refused, offence_alone}
use Rattle.mt_replay_laws.proofs.statuses.accepted_comes_first.Goals as goal

pub returns-clause-exactly : goal.returns-clause-exactly
returns-clause-exactly c = accepted_unless_refused

pub returns-clause-first : goal.returns-clause-first
returns-clause-first c = accepted_first

pub returns-clause-offence : goal.returns-clause-offence
returns-clause-offence c = offence_alone
