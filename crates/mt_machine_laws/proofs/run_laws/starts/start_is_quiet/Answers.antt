use Rattle.mt_laws.proofs.Invariant.Starts.{start_is_quiet}
use Rattle.mt_machine_laws.proofs.run_laws.starts.start_is_quiet.Goals as goal

pub returns : goal.returns
returns c = start_is_quiet
