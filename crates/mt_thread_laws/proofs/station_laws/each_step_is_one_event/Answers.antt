use Rattle.mt_thread_laws.proofs.EachStep.{arrive_again_follows, arrive_follows, cancel_follows, go_follows, join_follows, pass_follows, release_follows, split_follows, work_follows}
use Rattle.mt_thread_laws.proofs.station_laws.each_step_is_one_event.Goals as goal

pub returns-clause-split : goal.returns-clause-split
returns-clause-split c = split_follows

pub returns-clause-join : goal.returns-clause-join
returns-clause-join c = join_follows

pub returns-clause-go : goal.returns-clause-go
returns-clause-go c = go_follows

pub returns-clause-cancel : goal.returns-clause-cancel
returns-clause-cancel c = cancel_follows

pub returns-clause-arrive : goal.returns-clause-arrive
returns-clause-arrive c = arrive_follows

pub returns-clause-pass : goal.returns-clause-pass
returns-clause-pass c = pass_follows

pub returns-clause-work : goal.returns-clause-work
returns-clause-work c = work_follows

pub returns-clause-arrive_again : goal.returns-clause-arrive_again
returns-clause-arrive_again c = arrive_again_follows

pub returns-clause-release : goal.returns-clause-release
returns-clause-release c = release_follows
