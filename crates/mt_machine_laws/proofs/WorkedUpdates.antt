-- One processor with a buffer, one with a dirty line, and two: their starts and events.
use Rattle.std.proofs.Common.{◌≡◌, [], ◌∷◌, ◌++◌, false, rules, refl, inr}
use Rattle.std.proofs.lemmas.Bool.{not-true}
use Rattle.std.specs.Prelude.{not}
use Rattle.mt_machine.specs.declared.event.Event.TheVariants.{Arrive, Leave, Release}
use Rattle.mt_machine.specs.Machine.{AreEnabled, Calls, Cancels, Reached, Steps, at_start, has_passed, run}
use Rattle.mt_machine.specs.Start.{IsBroadcast, IsQuiet, IsStart}
use Rattle.mt_machine.specs.Update.{Led, led_on, led_start}
use Rattle.mt_machine_laws.specs.MachineWorkedRuns.{bare_file, call_order}
use Rattle.mt_laws.specs.Settled.{IsFirstRelease}
use Rattle.mt_machine_laws.specs.WorkedUpdates.{at_pass, buffered, by_buffered, dirty_released, dirty_taken, dirty_way, given_order, ready_pair, to_flush, to_pass, to_release, two_taken, two_to_change}
use Rattle.mt_laws.proofs.Invariant.Runs.{led_run, reached_run}
use Rattle.mt_laws.proofs.Words.Sound.{test_all}

pub quiet : IsQuiet buffered
quiet = search rules

pub broadcast : IsBroadcast dirty_taken call_order
broadcast = search rules

pub broadcast_pair : IsBroadcast ready_pair call_order
broadcast_pair = search rules

pub buffered_enabled : AreEnabled buffered (Calls (bare_file 0x806) ∷ by_buffered)
buffered_enabled = (search rules, (refl, (refl, (refl, (refl, (refl, (refl, (refl, (refl, (refl, (refl, (refl, (refl, (refl, (refl, (refl, (refl, tt)))))))))))))))))

pub to_flush_enabled : AreEnabled dirty_taken to_flush
to_flush_enabled = (refl, (refl, (refl, (refl, tt))))

pub to_release_enabled : AreEnabled dirty_taken to_release
to_release_enabled = (refl, (refl, (refl, (refl, (refl, (refl, (refl, (refl, (refl, (refl, (refl, (refl, (refl, (refl, (refl, (refl, tt))))))))))))))))

pub released_enabled : AreEnabled dirty_taken (to_release ++ Steps 0 Release ∷ [])
released_enabled = (refl, (refl, (refl, (refl, (refl, (refl, (refl, (refl, (refl, (refl, (refl, (refl, (refl, (refl, (refl, (refl, (refl, tt)))))))))))))))))

pub led_to_release : Led dirty_taken (run dirty_taken to_release)
led_to_release = led_run to_release dirty_taken dirty_taken led_start to_release_enabled refl

pub cancelled_enabled : AreEnabled ready_pair (Steps 0 Arrive ∷ Cancels ∷ Steps 1 Leave ∷ Steps 0 Leave ∷ [])
cancelled_enabled = (refl, (refl, (refl, (refl, tt))))

pub led_to_leave : Led ready_pair (run ready_pair (Steps 0 Arrive ∷ Cancels ∷ Steps 1 Leave ∷ []))
led_to_leave = led_run (Steps 0 Arrive ∷ Cancels ∷ Steps 1 Leave ∷ []) ready_pair ready_pair led_start (refl, (refl, (refl, tt))) refl

pub dirty_start : IsStart dirty_taken
dirty_start = inr (call_order, broadcast)

pub ready_start : IsStart ready_pair
ready_start = inr (call_order, broadcast_pair)

pub pass_reached : Reached dirty_taken at_pass
pass_reached = reached_run to_pass dirty_taken dirty_taken at_start (refl, (refl, tt))

pub release_reached : Reached dirty_taken (run dirty_taken to_release)
release_reached = reached_run to_release dirty_taken dirty_taken at_start to_release_enabled

pub dirty_first_release : IsFirstRelease at_pass dirty_released given_order
dirty_first_release = record {
  order = refl;
  none_passed = test_all (λ q. not (has_passed given_order q)) (λ q. has_passed given_order q ≡ false) (λ q. not-true (has_passed given_order q)) at_pass.system.processors refl;
  first = 0;
  last = 0;
  between = dirty_way;
  no_release = refl;
  enabled = (refl, (refl, (refl, (refl, (refl, (refl, (refl, (refl, (refl, (refl, (refl, (refl, (refl, (refl, (refl, tt)))))))))))))));
  leads = refl;
}

pub led_released : Led dirty_taken dirty_released
led_released = led_on (Steps 0 Release) led_to_release refl refl

pub two_broadcast : IsBroadcast two_taken call_order
two_broadcast = search rules

pub two_start : IsStart two_taken
two_start = inr (call_order, two_broadcast)

pub two_change_enabled : AreEnabled two_taken two_to_change
two_change_enabled = (refl, (refl, (refl, (refl, (refl, (refl, (refl, (refl, (refl, (refl, (refl, tt)))))))))))
