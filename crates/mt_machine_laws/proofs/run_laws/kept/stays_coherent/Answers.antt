use Rattle.mt_laws.proofs.Invariant.Kept.{stays_coherent}
use Rattle.mt_machine_laws.proofs.run_laws.kept.stays_coherent.Goals as goal

pub returns : goal.returns
returns c = stays_coherent
