use Rattle.mt_laws.proofs.Registers.Quiet.{reached_is_quiet}
use Rattle.mt_machine_laws.proofs.run_laws.starts.reached_is_quiet.Goals as goal

pub returns : goal.returns
returns c = reached_is_quiet
