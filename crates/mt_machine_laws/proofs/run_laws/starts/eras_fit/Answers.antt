use Rattle.mt_machine_laws.proofs.Barrier.Eras.{eras_fit}
use Rattle.mt_machine_laws.proofs.run_laws.starts.eras_fit.Goals as goal

pub returns : goal.returns
returns c = eras_fit
