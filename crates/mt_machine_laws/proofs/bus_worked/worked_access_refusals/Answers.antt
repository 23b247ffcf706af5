use Rattle.std.proofs.Common.{refl, rules}
use Rattle.mt_machine.specs.declared.op.Op.TheVariants.{Load}
use Rattle.mt_machine_laws.specs.MachineWorkedRuns.{alone, whole}
use Rattle.mt_machine_laws.specs.WorkedRefusals.{stray_entry}
use Rattle.mt_machine_laws.proofs.bus_worked.worked_access_refusals.Goals as goal

pub returns-clause-loaded_without_memory : goal.returns-clause-loaded_without_memory
returns-clause-loaded_without_memory c = λ h. absurd (cc (h.no_memory.1 (refl, refl, (stray_entry, refl, refl))))

pub returns-clause-of_the_machine : goal.returns-clause-of_the_machine
returns-clause-of_the_machine c = λ law. law (alone whole).system 0 whole (Load 0x1000) (search rules) refl
