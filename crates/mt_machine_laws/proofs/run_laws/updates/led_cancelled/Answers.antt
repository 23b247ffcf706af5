use Rattle.mt_laws.proofs.Updates.Broadcast.{led_not_given, led_cancelled}
use Rattle.mt_machine_laws.proofs.run_laws.updates.led_cancelled.Goals as goal

pub returns-clause-before : goal.returns-clause-before
returns-clause-before c = led_not_given

pub returns-clause-end : goal.returns-clause-end
returns-clause-end c = led_cancelled
