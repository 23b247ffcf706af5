use Rattle.std.proofs.Common.{◌∷◌, [], arith, refl}
use Rattle.mt_machine.specs.Machine.{AreEnabled}
use Rattle.mt_machine.specs.Update.{updated}
use Rattle.mt_machine_laws.specs.MachineWorkedRuns.{bare_file}
use Rattle.mt_machine_laws.specs.CoreWorkedLaws.{two_unlike, uncalled}
use Rattle.mt_machine_laws.proofs.OnWorked.{two_unlike_can_be_called, two_unlike_is_quiet}
use Rattle.mt_machine_laws.proofs.core_worked_laws.worked_laws_of_whole_updates.Goals as goal

on : AreEnabled (updated two_unlike.system (0 ∷ 1 ∷ []) (bare_file 0x806)) uncalled
on = ((refl, (refl, omega arith)), ((refl, λ p is. tt), ((refl, ((refl, omega arith), omega arith)), tt)))

pub returns-clause-by_events : goal.returns-clause-by_events
returns-clause-by_events c = λ law. (law two_unlike (bare_file 0x806) two_unlike_is_quiet two_unlike_can_be_called).1

pub returns-clause-settled : goal.returns-clause-settled
returns-clause-settled c = λ law. law two_unlike (bare_file 0x806) uncalled two_unlike_is_quiet two_unlike_can_be_called (omega arith) on refl

pub returns-clause-held : goal.returns-clause-held
returns-clause-held c = λ law address. law two_unlike (bare_file 0x806) uncalled address two_unlike_is_quiet two_unlike_can_be_called on
