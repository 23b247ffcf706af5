use Rattle.mt_core.proofs.Waiting.{waits_at_barriers}
use Rattle.mt_machine_laws.proofs.core_laws.steps_wait.Goals as goal

pub returns : goal.returns
returns c = waits_at_barriers
