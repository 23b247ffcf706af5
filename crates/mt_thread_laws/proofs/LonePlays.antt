-- The plays of the worked processor that stands alone.
use Rattle.std.proofs.Common.{◌≡◌, ℕ, ◌∷◌, [], Some, arith, refl}
use Rattle.std.specs.Prelude.{slice_get}
use mathlib.Core.Option.{none}
use Rattle.atomic_table.specs.Table.{step}
use Rattle.mt_machine.specs.declared.event.Event.TheVariants.{Arrive, ArriveAgain, Pass, Release}
use Rattle.mt_machine.specs.declared.go.Go.TheVariants.{Given, Pending}
use Rattle.mt_machine.specs.declared.phase.Phase.TheVariants.{Arrived}
use Rattle.mt_machine.specs.Machine.{Steps, common_era}
use Rattle.mt_machine.specs.Update.{led_start}
use Rattle.mt_rendezvous.specs.Plays.{Arrives, ArrivesAgain, PassSteps, Passes, Releases, StandsInUpdate, Works, arrive, arrive_again, does, own_event, work, word_step}
use Rattle.mt_thread_laws.specs.WorkedLone.{again, back, both_written, come, fills, free, gone, lone, new, pass_of, sits}
use Rattle.mt_thread_laws.specs.WorkedStations.{bare, zeros}
use Rattle.mt_thread_laws.proofs.OnLone.{begins_lone, led_by, one_held}

pub arrives : Arrives (step 0 0 1 0 none) (sits lone new) 0 (sits lone come)
arrives = (
  refl,
  begins_lone,
  one_held (λ h. slice_get lone.cpus h.number ≡ Some h.cpu) new refl,
  (λ below. (
    refl,
    one_held (λ h. PassSteps lone (word_step 0 0 1) (Some (Steps h.number Arrive)) h (arrive lone h)) new
        (record { all = new ∷ []; go = Pending; words = 0 ∷ 0 ∷ 0 ∷ zeros; led = led_start; at = refl; first = refl; second = refl; word = refl; enabled = refl; becomes = refl }),
  )),
  (λ above. absurd (omega (arith, above))),
)

pub passes : Passes (step 0 0 0 0 none) (sits lone come) 2 (sits lone gone)
passes = (
  refl,
  (λ full. (
    refl,
    one_held (λ h. PassSteps lone (word_step 0 2 2) (Some (Steps h.number Pass)) h (does lone Pass h)) come
        (record { all = come ∷ []; go = Given; words = 2 ∷ 0 ∷ 0 ∷ zeros; led = led_by 2; at = refl; first = refl; second = refl; word = refl; enabled = refl; becomes = refl }),
    one_held (λ h. (h.cpu.phase ≡ Arrived) × StandsInUpdate lone Given h.number (does lone Pass h).cpu) come (refl, record { machine = _; led = led_by 3; order = refl; at = refl }),
  )),
  (λ above. absurd (omega (arith, above))),
  (λ below other. absurd (other refl)),
)

pub works : Works (step 0 2 1 0 none) (sits lone gone) 1 (sits lone fills)
works = (
  refl,
  refl,
  one_held (λ h. (was : ℕ) × PassSteps lone (word_step 2 was 1) (Some (Steps h.number (own_event lone h.cpu))) h (work lone h)) gone
      (0, record { all = gone ∷ []; go = Given; words = 2 ∷ 0 ∷ 0 ∷ zeros; led = led_by 3; at = refl; first = refl; second = refl; word = refl; enabled = refl; becomes = refl }),
  one_held (λ h. StandsInUpdate lone Given h.number (work lone h).cpu) gone (record { machine = _; led = led_by 4; order = refl; at = refl }),
)

pub arrives_again : ArrivesAgain (step 0 1 1 0 none) (sits lone back) 0 (sits lone again)
arrives_again = (
  refl,
  refl,
  one_held (λ h. PassSteps lone (word_step 1 0 1) (Some (Steps h.number ArriveAgain)) h (arrive_again lone h)) back
      (record { all = back ∷ []; go = Given; words = 2 ∷ 0 ∷ 8 ∷ both_written; led = led_by 15; at = refl; first = refl; second = refl; word = refl; enabled = refl; becomes = refl }),
)

pub releases : Releases (step 0 1 0 0 none) (sits lone again) 1 (bare (pass_of lone (Some 1) free))
releases = (
  refl,
  omega arith,
  (λ full. (
    refl,
    one_held (λ h. PassSteps lone (word_step 1 1 1) (Some (Steps h.number Release)) h (does lone Release h)) again
        (record { all = again ∷ []; go = Given; words = 2 ∷ 1 ∷ 8 ∷ both_written; led = led_by 16; at = refl; first = refl; second = refl; word = refl; enabled = refl; becomes = refl }),
    one_held (λ h. h.cpu.era ≡ common_era lone.cpus) again refl,
  )),
  (λ other. absurd (other refl)),
)
