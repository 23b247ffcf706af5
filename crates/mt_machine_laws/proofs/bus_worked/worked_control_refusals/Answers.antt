use Rattle.std.proofs.Common.{refl}
use Rattle.mt_machine.specs.declared.control.Control.TheVariants.{Cr3}
use Rattle.mt_machine_laws.specs.MachineWorkedRuns.{alone}
use Rattle.mt_machine_laws.specs.WorkedRefusals.{crammed}
use Rattle.mt_machine_laws.proofs.bus_worked.worked_control_refusals.Goals as goal

pub returns-clause-of_the_machine : goal.returns-clause-of_the_machine
returns-clause-of_the_machine c = λ law. law (alone crammed).system 0 crammed Cr3 refl
