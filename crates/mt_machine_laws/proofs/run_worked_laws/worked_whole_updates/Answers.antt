use Rattle.std.proofs.Common.{◌∷◌, ◌++◌, [], refl}
use Rattle.mt_machine.specs.declared.event.Event.TheVariants.{Release}
use Rattle.mt_machine.specs.declared.go.Go.TheVariants.{Given}
use Rattle.mt_machine.specs.Machine.{Steps, run}
use Rattle.mt_machine_laws.specs.MachineWorkedRuns.{bare_file, call_order}
use Rattle.mt_machine_laws.specs.WorkedUpdates.{buffered, by_buffered, dirty_taken, to_release}
use Rattle.mt_machine_laws.proofs.WorkedUpdates.{broadcast, buffered_enabled, led_to_release, quiet, released_enabled}
use Rattle.mt_machine_laws.proofs.run_worked_laws.worked_whole_updates.Goals as goal

pub returns-clause-whole : goal.returns-clause-whole
returns-clause-whole c = λ law. law buffered (bare_file 0x806) by_buffered quiet buffered_enabled refl refl

pub returns-clause-broadcast : goal.returns-clause-broadcast
returns-clause-broadcast c = λ law. law dirty_taken call_order (to_release ++ Steps 0 Release ∷ []) broadcast released_enabled refl refl

pub returns-clause-led : goal.returns-clause-led
returns-clause-led c = λ law. law dirty_taken (run dirty_taken to_release) call_order (record call_order { go = Given }) (Steps 0 Release) broadcast led_to_release refl refl refl refl refl
