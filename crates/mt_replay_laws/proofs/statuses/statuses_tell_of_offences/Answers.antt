use Rattle.mt_replay.proofs.Refusals.Outcomes.{bad_text_ends, bad_text_where_offence, done_where_no_offence, one_of_three}
use Rattle.mt_replay_laws.proofs.statuses.statuses_tell_of_offences.Goals as goal

pub returns-clause-bad_text : goal.returns-clause-bad_text
returns-clause-bad_text c = bad_text_where_offence

pub returns-clause-last : goal.returns-clause-last
returns-clause-last c = bad_text_ends

pub returns-clause-done : goal.returns-clause-done
returns-clause-done c = done_where_no_offence

pub returns-clause-three : goal.returns-clause-three
returns-clause-three c = one_of_three
