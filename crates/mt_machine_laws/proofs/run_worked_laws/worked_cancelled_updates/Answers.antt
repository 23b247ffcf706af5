use Rattle.std.proofs.Common.{◌∷◌, [], refl}
use Rattle.mt_machine.specs.declared.event.Event.TheVariants.{Arrive, Leave}
use Rattle.mt_machine.specs.declared.go.Go.TheVariants.{Cancelled}
use Rattle.mt_machine.specs.Machine.{Cancels, Steps, run}
use Rattle.mt_machine_laws.specs.MachineWorkedRuns.{call_order}
use Rattle.mt_machine_laws.specs.WorkedUpdates.{ready_pair}
use Rattle.mt_machine_laws.proofs.WorkedUpdates.{broadcast_pair, cancelled_enabled, led_to_leave}
use Rattle.mt_machine_laws.proofs.run_worked_laws.worked_cancelled_updates.Goals as goal

pub returns-clause-broadcast : goal.returns-clause-broadcast
returns-clause-broadcast c = λ law. law ready_pair call_order (Steps 0 Arrive ∷ Cancels ∷ Steps 1 Leave ∷ Steps 0 Leave ∷ []) broadcast_pair cancelled_enabled refl refl

pub returns-clause-before : goal.returns-clause-before
returns-clause-before c = λ law.
    law ready_pair (run ready_pair (Steps 0 Arrive ∷ Cancels ∷ Steps 1 Leave ∷ [])) call_order (record call_order { go = Cancelled }) broadcast_pair led_to_leave refl refl

pub returns-clause-end : goal.returns-clause-end
returns-clause-end c = λ law.
    law ready_pair (run ready_pair (Steps 0 Arrive ∷ Cancels ∷ Steps 1 Leave ∷ [])) call_order (record call_order { go = Cancelled }) (Steps 0 Leave) broadcast_pair led_to_leave
    refl refl refl refl refl refl
