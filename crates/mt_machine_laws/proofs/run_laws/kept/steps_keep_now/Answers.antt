use Rattle.mt_laws.proofs.Invariant.Kept.{steps_keep_now}
use Rattle.mt_machine_laws.proofs.run_laws.kept.steps_keep_now.Goals as goal

pub returns : goal.returns
returns c = steps_keep_now
