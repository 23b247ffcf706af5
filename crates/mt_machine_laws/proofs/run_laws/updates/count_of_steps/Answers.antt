use Rattle.mt_laws.proofs.Steps.StepTotals.{count_of_steps}
use Rattle.mt_machine_laws.proofs.run_laws.updates.count_of_steps.Goals as goal

pub returns : goal.returns
returns c = count_of_steps
