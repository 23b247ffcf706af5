use Rattle.mt_laws.proofs.Updates.Quiet.{updated_is_quiet}
use Rattle.mt_machine_laws.proofs.run_laws.starts.updated_is_quiet.Goals as goal

pub returns : goal.returns
returns c = updated_is_quiet
