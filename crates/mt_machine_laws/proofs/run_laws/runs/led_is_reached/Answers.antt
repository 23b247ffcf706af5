use Rattle.mt_laws.proofs.Invariant.Runs.{led_reached}
use Rattle.mt_machine_laws.proofs.run_laws.runs.led_is_reached.Goals as goal

pub returns : goal.returns
returns c = λ s t l. led_reached l
