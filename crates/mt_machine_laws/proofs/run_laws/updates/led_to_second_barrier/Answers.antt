use Rattle.mt_laws.proofs.Updates.SecondBarrier.{led_to_second_barrier}
use Rattle.mt_machine_laws.proofs.run_laws.updates.led_to_second_barrier.Goals as goal

pub returns : goal.returns
returns c = led_to_second_barrier
