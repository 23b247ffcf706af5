use Rattle.std.proofs.Common.{◌∷◌, [], None, ap, arith, refl, subst, sym}
use Rattle.mt_machine.specs.declared.go.Go.TheVariants.{Cancelled, Given}
use Rattle.mt_machine.specs.declared.phase.Phase.TheVariants.{Running, Taken}
use Rattle.mt_machine.specs.Machine.{Cancels as CancelsUpdate, Goes}
use Rattle.mt_machine.specs.Update.{led_start}
use Rattle.mt_rendezvous.specs.declared.view.Start.{Start}
use Rattle.mt_rendezvous.specs.Station.{first_view, held, numbered, start_of}
use Rattle.mt_rendezvous.specs.Plays.{Decided, with_go, word_step}
use Rattle.mt_thread_laws.specs.WorkedLone.{left, pass_of, root_of}
use Rattle.mt_thread_laws.specs.WorkedStations.{at_start, both_taken, first, second, start, words_of}
use Rattle.mt_thread_laws.proofs.OnLone.{left_meets}
use Rattle.mt_thread_laws.proofs.StationOnWorked.{opened}
use Rattle.mt_thread_laws.proofs.WorkedStart.{begins_start}
use Rattle.mt_rendezvous.specs.declared.view.Added.TheVariants.{Never, Once}
use Rattle.mt_thread_laws.proofs.station_worked_laws.worked_laws_of_the_root.Goals as goal

goes : Decided start (word_step 0 0 1) Goes Given
goes = record { all = both_taken; words = words_of 0 0; led = led_start; first = refl; second = refl; word = refl; enabled = refl; becomes = refl }

cancels : Decided start (word_step 0 0 0x100000000) CancelsUpdate Cancelled
cancels = record { all = both_taken; words = words_of 0 0; led = led_start; first = refl; second = refl; word = refl; enabled = refl; becomes = refl }

pub returns-clause-split : goal.returns-clause-split
returns-clause-split c = λ law key is. (
  opened key is begins_start,
  law key (at_start key) (opened key is begins_start) 0 (first_view key) (held 0 (first Taken) Never) (held 1 (second Taken) Never ∷ []) refl
      (ap (λ (t : Start). numbered 0 t.cpus) is),
)

pub returns-clause-go : goal.returns-clause-go
returns-clause-go c = λ law key is. (
  opened key is begins_start,
  law key (at_start key) (opened key is begins_start) 0 (first_view key, []) (with_go (first_view key) Given, []) (record { at = refl; root = refl; unsaid = refl })
      (refl, refl, subst (λ (t : Start). Decided t (word_step 0 0 1) Goes Given) (sym is) goes),
)

pub returns-clause-cancel : goal.returns-clause-cancel
returns-clause-cancel c = λ law key is. (
  opened key is begins_start,
  law key (at_start key) (opened key is begins_start) 0 (first_view key, []) (with_go (first_view key) Cancelled, []) (record { at = refl; root = refl; unsaid = refl })
      (refl, refl, subst (λ (t : Start). Decided t (word_step 0 0 0x100000000) CancelsUpdate Cancelled) (sym is) cancels),
)

pub returns-clause-join : goal.returns-clause-join
returns-clause-join c = λ law key is. (
  left_meets key is,
  law key (left key) (left_meets key is) 0 1 (root_of (start_of key) Cancelled) (pass_of (start_of key) None (held 0 (first Running) Once)) (held 0 (first Running) Once)
      refl refl (λ same. omega (arith, same)) refl refl,
)
