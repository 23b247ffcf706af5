use Rattle.std.proofs.Common.{rules, refl}
use Rattle.mt_kinds.specs.declared.mem_type.MemType.TheVariants.{WB}
use Rattle.mt_machine.specs.declared.event.Event.TheVariants.{Take}
use Rattle.mt_machine.specs.Machine.{Steps}
use Rattle.mt_machine.specs.System.{IsSound}
use Rattle.mt_machine_laws.specs.MachineWorkedRuns.{alone, whole}
use Rattle.mt_flat.specs.Seen.{IsFlatOf}
use Rattle.mt_flat.specs.WorkedRuns.{beside, called_whole}
use Rattle.mt_flat.proofs.worked.worked_laws_under_way.Goals as goal

sound : IsSound (alone whole).system
sound = search rules

stands : IsFlatOf called_whole.system (beside called_whole.system)
stands = record { values = λ a whole. refl; pending = λ k. refl }

pub returns-clause-event : goal.returns-clause-event
returns-clause-event c = λ law. law called_whole (Steps 0 Take) (beside called_whole.system) sound stands refl

pub returns-clause-answer : goal.returns-clause-answer
returns-clause-answer c = λ law. law called_whole (beside called_whole.system) 0 0x1008 6 WB sound stands refl
