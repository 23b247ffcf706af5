use Rattle.mt_core.proofs.Stopping.{stops_outside}
use Rattle.mt_machine_laws.proofs.core_laws.steps_stop.Goals as goal

pub returns : goal.returns
returns c = stops_outside
