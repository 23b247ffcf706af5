use Rattle.mt_laws.proofs.Registers.Settled.{settled}
use Rattle.mt_machine_laws.proofs.run_laws.settled.settled_after_each_release.Goals as goal

pub returns : goal.returns
returns c = settled
