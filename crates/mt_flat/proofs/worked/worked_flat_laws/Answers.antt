use Rattle.std.proofs.Common.{rules, ◌∷◌, [], refl}
use Rattle.mt_kinds.specs.declared.mem_type.MemType.TheVariants.{WB}
use Rattle.mt_machine.specs.Machine.{AreEnabled}
use Rattle.mt_machine.specs.System.{IsSound}
use Rattle.mt_machine_laws.specs.MachineWorkedRuns.{alone, palette, store, whole}
use Rattle.mt_flat.specs.Seen.{IsFlatOf}
use Rattle.mt_flat.specs.WorkedRuns.{beside}
use Rattle.mt_flat.proofs.worked.worked_flat_laws.Goals as goal

sound : IsSound (alone whole).system
sound = search rules

enabled : AreEnabled (alone whole) (store 0 0x1008 9 ∷ [])
enabled = search rules

stands : IsFlatOf (alone whole).system (beside (alone whole).system)
stands = record { values = λ a whole. refl; pending = λ k. refl }

pub returns-clause-run : goal.returns-clause-run
returns-clause-run c = λ law. law (alone whole) (store 0 0x1008 9 ∷ []) (beside (alone whole).system) sound stands enabled

pub returns-clause-answer : goal.returns-clause-answer
returns-clause-answer c = λ law. law (alone whole) (beside (alone whole).system) (store 0 0x1008 9 ∷ []) 0 0x1008 9 WB sound stands enabled refl

pub returns-clause-few : goal.returns-clause-few
returns-clause-few c = λ law. law (alone whole) (beside (alone whole).system) (store 0 0x1008 9 ∷ []) 0 sound stands enabled

pub returns-clause-no_buffers : goal.returns-clause-no_buffers
returns-clause-no_buffers c = λ law. law palette.system (search rules)
