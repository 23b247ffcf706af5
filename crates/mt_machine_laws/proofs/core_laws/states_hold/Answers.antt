use Rattle.mt_machine_laws.proofs.Throughout.{barriers_hold_throughout, none_acts_throughout, none_runs_throughout, orders_hold_throughout, steps_count_throughout, steps_keep_throughout}
use Rattle.mt_machine_laws.proofs.core_laws.states_hold.Goals as goal

pub returns-clause-barriers : goal.returns-clause-barriers
returns-clause-barriers c = barriers_hold_throughout

pub returns-clause-exclusive : goal.returns-clause-exclusive
returns-clause-exclusive c = none_runs_throughout

pub returns-clause-busy : goal.returns-clause-busy
returns-clause-busy c = none_acts_throughout

pub returns-clause-orders : goal.returns-clause-orders
returns-clause-orders c = orders_hold_throughout

pub returns-clause-words : goal.returns-clause-words
returns-clause-words c = steps_keep_throughout

pub returns-clause-counts : goal.returns-clause-counts
returns-clause-counts c = steps_count_throughout
