use Rattle.mt_replay_laws.proofs.Courses.Movers.{retires_where_idle, stays_alone, stays_full, stays_under_way}
use Rattle.mt_replay_laws.proofs.headline.processors_come_and_go_by_lines.Goals as goal

pub returns-clause-retired : goal.returns-clause-retired
returns-clause-retired c = retires_where_idle

pub returns-clause-under_way : goal.returns-clause-under_way
returns-clause-under_way c = stays_under_way

pub returns-clause-full : goal.returns-clause-full
returns-clause-full c = stays_full

pub returns-clause-alone : goal.returns-clause-alone
returns-clause-alone c = stays_alone
