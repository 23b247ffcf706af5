use Rattle.std.proofs.Common.{[], refl}
use Rattle.mt_kinds.specs.declared.mem_type.MemType.TheVariants.{WB}
use Rattle.mt_machine.specs.Machine.{AreEnabled}
use Rattle.mt_machine_laws.specs.WorkedUpdates.{dirty_released, dirty_taken, given_order, to_pass}
use Rattle.mt_machine_laws.proofs.WorkedUpdates.{dirty_first_release, dirty_start}
use Rattle.mt_flat.specs.Courses.{IsCourse}
use Rattle.mt_flat.specs.Seen.{IsFlatOf}
use Rattle.mt_flat.specs.WorkedRuns.{beside, cancelled_turns}
use Rattle.mt_flat.proofs.worked.worked_laws_of_broadcasts.Goals as goal

stands : IsFlatOf dirty_taken.system (beside dirty_taken.system)
stands = record { values = λ a whole. refl; pending = λ k. refl }

turns : IsCourse dirty_taken cancelled_turns
turns = (refl, (refl, tt))

enabled : AreEnabled dirty_taken to_pass
enabled = (refl, (refl, tt))

pub returns-clause-course : goal.returns-clause-course
returns-clause-course c = λ law. law dirty_taken (beside dirty_taken.system) cancelled_turns dirty_start stands turns

pub returns-clause-answer : goal.returns-clause-answer
returns-clause-answer c = λ law. law dirty_taken (beside dirty_taken.system) cancelled_turns 0 0x1008 6 WB dirty_start stands turns refl

pub returns-clause-held : goal.returns-clause-held
returns-clause-held c = λ law. law dirty_taken dirty_released (beside dirty_taken.system) to_pass [] given_order dirty_start stands enabled dirty_first_release tt
