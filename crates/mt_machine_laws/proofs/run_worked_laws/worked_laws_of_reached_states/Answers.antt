use Rattle.std.proofs.Common.{rules, ◌∷◌, [], refl}
use Rattle.mt_machine.specs.declared.event.Event.TheVariants.{Arrive, Leave}
use Rattle.mt_machine.specs.Machine.{Cancels, Reached, Steps, at_start, run}
use Rattle.mt_machine_laws.specs.WorkedUpdates.{at_pass, dirty_taken, given_order, ready_pair, to_flush, to_release}
use Rattle.mt_laws.proofs.Invariant.Runs.{reached_run}
use Rattle.mt_machine_laws.proofs.WorkedUpdates.{cancelled_enabled, dirty_start, led_to_release, pass_reached, ready_start, to_flush_enabled}
use Rattle.mt_machine_laws.proofs.run_worked_laws.worked_laws_of_reached_states.Goals as goal

reached : Reached dirty_taken (run dirty_taken to_flush)
reached = reached_run to_flush dirty_taken dirty_taken at_start to_flush_enabled

left : Reached ready_pair (run ready_pair (Steps 0 Arrive ∷ Cancels ∷ Steps 1 Leave ∷ Steps 0 Leave ∷ []))
left = reached_run (Steps 0 Arrive ∷ Cancels ∷ Steps 1 Leave ∷ Steps 0 Leave ∷ []) ready_pair ready_pair at_start cancelled_enabled

pub returns-clause-sound : goal.returns-clause-sound
returns-clause-sound c = λ law. law dirty_taken (run dirty_taken to_flush) dirty_start reached

pub returns-clause-orders : goal.returns-clause-orders
returns-clause-orders c = λ law. law dirty_taken (run dirty_taken to_flush) given_order dirty_start reached refl

pub returns-clause-stale : goal.returns-clause-stale
returns-clause-stale c = λ law. law dirty_taken (run dirty_taken to_flush) dirty_start (search rules) reached

pub returns-clause-no_buffers : goal.returns-clause-no_buffers
returns-clause-no_buffers c = λ law. law dirty_taken at_pass 0 dirty_start pass_reached refl

pub returns-clause-led : goal.returns-clause-led
returns-clause-led c = λ law. law dirty_taken (run dirty_taken to_release) led_to_release

pub returns-clause-quiet : goal.returns-clause-quiet
returns-clause-quiet c = λ law.
    law ready_pair (run ready_pair (Steps 0 Arrive ∷ Cancels ∷ Steps 1 Leave ∷ Steps 0 Leave ∷ [])) ready_start left refl
