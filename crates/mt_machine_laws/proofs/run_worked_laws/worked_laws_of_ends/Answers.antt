use Rattle.std.proofs.Common.{rules, ◌∷◌, [], length, refl}
use Rattle.mt_machine.specs.Machine.{AreEnabled, Calls, IsEnabled, run}
use Rattle.mt_machine.specs.Start.{IsQuiet}
use Rattle.mt_machine.specs.Update.{Led, led_start}
use Rattle.mt_machine_laws.specs.MachineWorkedRuns.{bare_file, call_order, own, ready}
use Rattle.mt_laws.specs.Counts.{IsEachOnce}
use Rattle.mt_machine_laws.specs.RunWorkedRuns.{unlike_pair}
use Rattle.mt_machine_laws.specs.WorkedUpdates.{buffered, by_buffered, dirty_released, dirty_taken, given_order, pair_to_release, ready_pair, to_release}
use Rattle.mt_laws.proofs.Invariant.Runs.{led_run}
use Rattle.mt_machine_laws.proofs.WorkedUpdates.{broadcast, broadcast_pair, buffered_enabled, led_released, led_to_release, quiet}
use Rattle.mt_machine_laws.proofs.run_worked_laws.worked_laws_of_ends.Goals as goal

to_release_enabled : AreEnabled ready_pair pair_to_release
to_release_enabled = (refl, (refl, (refl, (refl, (refl, (refl, (refl, (refl, (refl, (refl, (refl, (refl, (refl, (refl, (refl, (refl, (refl, (refl, (refl, (refl, (refl, (refl, (refl, (refl, (refl, (refl, (refl, (refl, tt))))))))))))))))))))))))))))

led : Led ready_pair (run ready_pair pair_to_release)
led = led_run pair_to_release ready_pair ready_pair led_start to_release_enabled refl

unlike : IsQuiet unlike_pair
unlike = search rules

enabled : IsEnabled unlike_pair (Calls (bare_file 0x806))
enabled = search rules

each : IsEachOnce (length unlike_pair.system.processors) (1 ∷ 0 ∷ [])
each = search rules

pub returns-clause-barrier : goal.returns-clause-barrier
returns-clause-barrier c = λ law. law dirty_taken (run dirty_taken to_release) call_order given_order broadcast led_to_release refl refl

pub returns-clause-released : goal.returns-clause-released
returns-clause-released c = λ law.
    law ready_pair (run ready_pair pair_to_release) call_order given_order 1 ready (own (run ready_pair pair_to_release) 1) broadcast_pair led refl refl refl refl

pub returns-clause-end : goal.returns-clause-end
returns-clause-end c = λ law. law dirty_taken dirty_released call_order broadcast led_released refl

pub returns-clause-takes : goal.returns-clause-takes
returns-clause-takes c = λ law. law buffered (bare_file 0x806) by_buffered quiet buffered_enabled refl refl

pub returns-clause-broadcast : goal.returns-clause-broadcast
returns-clause-broadcast c = λ law. law unlike_pair (bare_file 0x806) (1 ∷ 0 ∷ []) unlike enabled each
