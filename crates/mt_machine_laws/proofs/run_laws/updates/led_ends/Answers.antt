use Rattle.mt_laws.proofs.Updates.Broadcast.{led_ends}
use Rattle.mt_machine_laws.proofs.run_laws.updates.led_ends.Goals as goal

pub returns : goal.returns
returns c = led_ends
