use Rattle.mt_laws.proofs.Invariant.Runs.{reached_is_run}
use Rattle.mt_machine_laws.proofs.run_laws.runs.reached_is_run.Goals as goal

pub returns : goal.returns
returns c = reached_is_run
