use Rattle.mt_laws.proofs.Updates.SecondBarrier.{led_released}
use Rattle.mt_machine_laws.proofs.run_laws.updates.led_released.Goals as goal

pub returns : goal.returns
returns c = led_released
