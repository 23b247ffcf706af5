use Rattle.mt_laws.proofs.Barrier.Claims.{barriers_hold_of, none_runs_of}
use Rattle.mt_laws.proofs.Barrier.Acting.{none_acts_of}
use Rattle.mt_machine_laws.proofs.run_laws.barriers.barriers_hold.Goals as goal

pub returns-clause-barriers : goal.returns-clause-barriers
returns-clause-barriers c = barriers_hold_of

pub returns-clause-exclusive : goal.returns-clause-exclusive
returns-clause-exclusive c = none_runs_of

pub returns-clause-busy : goal.returns-clause-busy
returns-clause-busy c = none_acts_of
