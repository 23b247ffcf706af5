use Rattle.mt_core.proofs.Eras.{eras_rise}
use Rattle.mt_machine_laws.proofs.core_laws.eras_rise.Goals as goal

pub returns : goal.returns
returns c = eras_rise
