use Rattle.mt_laws.proofs.Clearing.Fresh.{nothing_is_stale, starts_fresh}
use Rattle.mt_machine_laws.proofs.run_laws.settled.nothing_is_stale.Goals as goal

pub returns-clause-reached : goal.returns-clause-reached
returns-clause-reached c = nothing_is_stale

pub returns-clause-start : goal.returns-clause-start
returns-clause-start c = starts_fresh
