use Rattle.std.proofs.Common.{◌∷◌, [], refl}
use Rattle.mt_machine.specs.declared.event.Event.TheVariants.{Leave, Take}
use Rattle.mt_machine.specs.Machine.{Cancels, Steps}
use Rattle.mt_machine_laws.specs.MachineWorkedRuns.{bare, bare_file}
use Rattle.mt_machine_laws.specs.RunWorkedRuns.{bare_called, between_of_bare}
use Rattle.mt_machine_laws.proofs.WorkedBare.{cancelled, quiet, reached, start}
use Rattle.mt_machine_laws.proofs.run_worked_laws.worked_laws_of_updates.Goals as goal

pub returns-clause-cancelled : goal.returns-clause-cancelled
returns-clause-cancelled c = λ law. law bare (bare_file 0x806) (Steps 0 Take ∷ Cancels ∷ Steps 0 Leave ∷ []) quiet cancelled refl refl

pub returns-clause-takes : goal.returns-clause-takes
returns-clause-takes c = λ law. law bare (bare_file 0x806) (Steps 0 Take ∷ Cancels ∷ Steps 0 Leave ∷ []) quiet cancelled refl

pub returns-clause-counted : goal.returns-clause-counted
returns-clause-counted c = λ law.
    law bare bare_called 0 between_of_bare start reached
    (refl, (refl, (refl, (refl, (refl, (refl, (refl, (refl, (refl, (refl, (refl, (refl, (refl, (refl, (refl, tt)))))))))))))))
    refl
