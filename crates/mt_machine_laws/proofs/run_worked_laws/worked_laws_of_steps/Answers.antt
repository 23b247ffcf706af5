use Rattle.std.proofs.Common.{refl}
use Rattle.mt_machine.specs.Machine.{Calls}
use Rattle.mt_machine_laws.specs.MachineWorkedRuns.{bare, goal_of, palette}
use Rattle.mt_machine_laws.specs.RunWorkedRuns.{bare_called}
use Rattle.mt_machine_laws.proofs.WorkedBare.{reached, start}
use Rattle.mt_machine_laws.proofs.run_worked_laws.worked_laws_of_steps.Goals as goal

pub returns-clause-take : goal.returns-clause-take
returns-clause-take c = λ law. law bare_called 0 refl

pub returns-clause-call : goal.returns-clause-call
returns-clause-call c = λ law. law palette (Calls goal_of) refl

pub returns-clause-coherent : goal.returns-clause-coherent
returns-clause-coherent c = λ law. law bare bare_called start reached
