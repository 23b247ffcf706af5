use Rattle.mt_laws.proofs.Invariant.Runs.{led_is_run}
use Rattle.mt_machine_laws.proofs.run_laws.runs.led_is_run.Goals as goal

pub returns : goal.returns
returns c = led_is_run
