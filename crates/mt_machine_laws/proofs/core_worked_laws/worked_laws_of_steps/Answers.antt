use Rattle.std.proofs.Common.{◌∷◌, [], refl}
use Rattle.mt_machine.specs.declared.event.Event.TheVariants.{Release}
use Rattle.mt_machine.specs.Machine.{Steps}
use Rattle.mt_machine_laws.specs.MachineWorkedRuns.{calling, own, ready}
use Rattle.mt_machine_laws.specs.RunWorkedRuns.{pair_order}
use Rattle.mt_machine_laws.specs.WorkedUpdates.{two_in_change, two_taken, two_to_change}
use Rattle.mt_machine_laws.proofs.WorkedUpdates.{two_change_enabled, two_start}
use Rattle.mt_core.specs.Arises.{Arises, from_start}
use Rattle.mt_machine_laws.specs.CoreWorkedLaws.{unlike_passed}
use Rattle.mt_machine_laws.specs.CoreWorkedRuns.{come, count}
use Rattle.mt_machine_laws.proofs.OnWorked.{arises_run}
use Rattle.mt_machine_laws.proofs.core_worked_laws.worked_laws_of_steps.Goals as goal

pub returns-clause-rise : goal.returns-clause-rise
returns-clause-rise c = λ law. law unlike_passed (Steps 1 Release) refl

pub returns-clause-waits : goal.returns-clause-waits
returns-clause-waits c = λ law. law (calling pair_order (ready ∷ come ∷ come ∷ [])) 1 come (count 3 4) refl

change_arises : Arises two_in_change
change_arises = arises_run two_to_change two_taken (from_start two_start) two_change_enabled

pub returns-clause-ends : goal.returns-clause-ends
returns-clause-ends c = λ law. law two_in_change change_arises

pub returns-clause-stops_not : goal.returns-clause-stops_not
returns-clause-stops_not c = λ law. law two_in_change 0 (own two_in_change 0) change_arises refl
