-- The stations of the worked processor that stands alone meet the rule.
use Rattle.std.proofs.Common.{◌≡◌, ◌<◌, ◌+◌, ℕ, zero, suc, true, List, [], ◌∷◌, ap, sym, refl, subst, inl, inr, arith, rules, length, Option, None, Some}
use Rattle.std.specs.Prelude.{slice_index, take}
use Rattle.std.specs.List.{list_all}
use mathlib.Core.Option.{some, some-injective, some-ne-none}
use lib.ListN.{get_elem?}
use Rattle.mt_machine.specs.declared.go.Go.{Go}
use Rattle.mt_machine.specs.declared.go.Go.TheVariants.{Cancelled, Given, Pending}
use Rattle.mt_machine.specs.declared.event.Event.TheVariants.{Leave}
use Rattle.mt_machine.specs.declared.phase.Phase.TheVariants.{Arrived, Arrived2, Passed, Restored, Running, Taken}
use Rattle.mt_machine.specs.Machine.{AreEnabled, Cancels, Machine, MachineEvent, Steps, run}
use Rattle.mt_machine.specs.Update.{Led, is_led, led_start}
use Rattle.mt_laws.proofs.Barrier.Ranks.{and_left, and_right}
use Rattle.mt_laws.proofs.Invariant.Runs.{led_run}
use Rattle.mt_rendezvous.specs.declared.view.Held.{Held}
use Rattle.mt_rendezvous.specs.declared.view.Start.{Start}
use Rattle.mt_rendezvous.specs.declared.view.View.{View}
use Rattle.mt_rendezvous.specs.declared.view.Key.{Key}
use Rattle.mt_rendezvous.specs.Station.{Begins, FitsHeld, IsHeld, Meets, Sits, added_of, again_of, broadcast, first_memory_word, go_weight, held, joined, phase_word_of, start_of, total, seating}
use Rattle.mt_thread_laws.specs.WorkedLone.{arrived, arrived_again, both_written, cancelled, changed, ended, left, lone}
use Rattle.mt_thread_laws.specs.WorkedLone.{lone_events, lone_station, passed, pass_of, released, restored, root_of, taken}
use Rattle.mt_rendezvous.specs.declared.view.Added.TheVariants.{Never, Once, Twice}
use Rattle.mt_thread_laws.specs.WorkedStations.{first, zeros}

pub begins_lone : Begins lone
begins_lone = search rules

module _ (key : Key) (is : start_of key ≡ lone) (go : Go) (shown : Option ℕ) (h : Held) (words : List ℕ) where
  abbrev its_root : View
  its_root = root_of (start_of key) go

  abbrev its_pass : View
  its_pass = pass_of (start_of key) shown h

  abbrev owner : ℕ → ℕ
  owner n = 1

  -- one that stands for a machine to which the broadcast state leads
  pub meets : Led (broadcast lone) (joined lone (h ∷ []) go words) → length words ≡ 11 → slice_index words 0 ≡ total added_of (h ∷ []) + go_weight go → slice_index words 1 ≡ total again_of (h ∷ [])
      → FitsHeld lone go h → h.number ≡ 0 → slice_index words 2 ≡ phase_word_of h → Meets key (lone_station key go shown h words)
  meets led size first second fits number phase = record {
    all = h ∷ [];
    go = go;
    owner = owner;
    begins = subst Begins (sym is) begins_lone;
    led_to = subst (λ (t : Start). Led (broadcast t) (joined t (h ∷ []) go words)) (sym is) led;
    size = ap (λ (t : Start). length t.cpus) (sym is);
    some_one = omega arith;
    few = omega arith;
    wide = subst (λ (t : Start). length words ≡ first_memory_word t + length t.ram.words) (sym is) size;
    first = first;
    second = second;
    fits = each_fits;
    codes = each_code;
    present = each_present;
    seats = each_sits;
  }
    where
      each_fits : (k : ℕ) (g : Held) → get_elem? (h ∷ []) k ≡ some g → FitsHeld (start_of key) go g × (g.number ≡ k)
      each_fits zero g at = subst (λ (x : Held). FitsHeld (start_of key) go x × (x.number ≡ 0)) (some-injective h g at) (subst (λ (t : Start). FitsHeld t go h) (sym is) fits, number)
      each_fits (suc k) g at = absurd (some-ne-none g (sym at))

      each_code : (k : ℕ) (g : Held) → get_elem? (h ∷ []) k ≡ some g → slice_index words (k + 2) ≡ phase_word_of g
      each_code zero g at = subst (λ (x : Held). slice_index words 2 ≡ phase_word_of x) (some-injective h g at) phase
      each_code (suc k) g at = absurd (some-ne-none g (sym at))

      each_present : (k : ℕ) → k < 1 → IsHeld (its_root ∷ its_pass ∷ []) k
      each_present zero below = (1, its_pass, 0, h, refl, refl, number)
      each_present (suc k) below = absurd (omega arith)

      is_first : (i : ℕ) (g : Held) → get_elem? (h ∷ []) i ≡ some g → (get_elem? (h ∷ []) g.number ≡ some g) × (owner g.number ≡ 1)
      is_first zero g at = subst (λ (x : Held). (get_elem? (h ∷ []) x.number ≡ some x) × (owner x.number ≡ 1)) (some-injective h g at) (ap (get_elem? (h ∷ [])) number, refl)
      is_first (suc i) g at = absurd (some-ne-none g (sym at))

      root_sits : Sits (start_of key) (seating (h ∷ []) go owner) 0 its_root
      root_sits = record { root = λ e. (refl, refl); told = inr refl; holds = λ i g at. absurd (some-ne-none g (sym at)); apart = tt }

      pass_sits : Sits (start_of key) (seating (h ∷ []) go owner) 1 its_pass
      pass_sits = record { root = λ e. absurd (cc e); told = inr refl; holds = is_first; apart = ((λ i g at. absurd (some-ne-none g (sym at))), tt) }

      each_sits : (j : ℕ) (v : View) → get_elem? (its_root ∷ its_pass ∷ []) j ≡ some v → Sits (start_of key) (seating (h ∷ []) go owner) j v
      each_sits zero v at = subst (Sits (start_of key) (seating (h ∷ []) go owner) 0) (some-injective its_root v at) root_sits
      each_sits (suc zero) v at = subst (Sits (start_of key) (seating (h ∷ []) go owner) 1) (some-injective its_pass v at) pass_sits
      each_sits (suc (suc j)) v at = absurd (some-ne-none v (sym at))

-- ---- the way of the update, and of one that is cancelled

enabled : AreEnabled (broadcast lone) lone_events
enabled = (refl, (refl, (refl, (refl, (refl, (refl, (refl, (refl, (refl, (refl, (refl, (refl, (refl, (refl, (refl, (refl, (refl, tt)))))))))))))))))

front_enabled : (n : ℕ) (m : Machine) (es : List MachineEvent) → AreEnabled m es → AreEnabled m (take n es)
front_enabled zero m es h = tt
front_enabled (suc n) m [] h = tt
front_enabled (suc n) m (e ∷ es) h = (h.0, front_enabled n _ es h.1)

front_led : (n : ℕ) (es : List MachineEvent) → list_all is_led es ≡ true → list_all is_led (take n es) ≡ true
front_led zero es is = refl
front_led (suc n) [] is = refl
front_led (suc n) (e ∷ es) is =
    let h = and_left (is_led e) (list_all is_led es) is in let r = front_led n es (and_right (is_led e) (list_all is_led es) is) in rw h r

-- after so many of its events
pub led_by : (n : ℕ) → Led (broadcast lone) (run (broadcast lone) (take n lone_events))
led_by n = led_run (take n lone_events) (broadcast lone) (broadcast lone) led_start (front_enabled n (broadcast lone) lone_events enabled) (front_led n lone_events refl)

fits_taken : FitsHeld lone Pending (held 0 (first Taken) Never)
fits_taken = record { first = λ w. refl; fits = inl refl; era = refl }

fits_arrived : (go : Go) → FitsHeld lone go (held 0 (first Arrived) Once)
fits_arrived go = record { first = λ w. refl; fits = refl; era = refl }

fits_left : FitsHeld lone Cancelled (held 0 (first Running) Once)
fits_left = record { first = λ w. absurd w; fits = inl (refl, refl); era = refl }

fits_passed : FitsHeld lone Given (held 0 (first Passed) Once)
fits_passed = record { first = λ w. absurd w; fits = (refl, refl); era = refl }

fits_restored : FitsHeld lone Given (held 0 (changed Restored) Once)
fits_restored = record { first = λ w. absurd w; fits = (refl, refl); era = refl }

fits_again : FitsHeld lone Given (held 0 (changed Arrived2) Twice)
fits_again = record { first = λ w. absurd w; fits = (refl, refl); era = refl }

fits_released : FitsHeld lone Given (held 0 released Twice)
fits_released = record { first = λ w. absurd w; fits = inr (refl, refl); era = refl }

fits_cancelled : FitsHeld lone Cancelled (held 0 (first Taken) Never)
fits_cancelled = record { first = λ w. refl; fits = inl refl; era = refl }

led_cancelled : Led (broadcast lone) (run (broadcast lone) (Cancels ∷ []))
led_cancelled = led_run (Cancels ∷ []) (broadcast lone) (broadcast lone) led_start (refl, tt) refl

led_left : Led (broadcast lone) (run (broadcast lone) (Cancels ∷ Steps 0 Leave ∷ []))
led_left = led_run (Cancels ∷ Steps 0 Leave ∷ []) (broadcast lone) (broadcast lone) led_start (refl, (refl, tt)) refl

module _ (key : Key) (is : start_of key ≡ lone) where
  pub taken_meets : Meets key (taken key)
  taken_meets = meets key is Pending None (held 0 (first Taken) Never) (0 ∷ 0 ∷ 0 ∷ zeros) led_start refl refl refl fits_taken refl refl

  pub arrived_meets : Meets key (arrived key)
  arrived_meets = meets key is Given None (held 0 (first Arrived) Once) (2 ∷ 0 ∷ 0 ∷ zeros) (led_by 2) refl refl refl (fits_arrived Given) refl refl

  pub passed_meets : Meets key (passed key)
  passed_meets = meets key is Given None (held 0 (first Passed) Once) (2 ∷ 0 ∷ 0 ∷ zeros) (led_by 3) refl refl refl fits_passed refl refl

  pub restored_meets : Meets key (restored key)
  restored_meets = meets key is Given None (held 0 (changed Restored) Once) (2 ∷ 0 ∷ 8 ∷ both_written) (led_by 15) refl refl refl fits_restored refl refl

  pub again_meets : Meets key (arrived_again key)
  again_meets = meets key is Given None (held 0 (changed Arrived2) Twice) (2 ∷ 1 ∷ 8 ∷ both_written) (led_by 16) refl refl refl fits_again refl refl

  pub ended_meets : Meets key (ended key)
  ended_meets = meets key is Given (Some 1) (held 0 released Twice) (2 ∷ 1 ∷ 8 ∷ both_written) (led_by 17) refl refl refl fits_released refl refl

  pub cancelled_meets : Meets key (cancelled key)
  cancelled_meets = meets key is Cancelled None (held 0 (first Taken) Never) (0x100000000 ∷ 0 ∷ 0 ∷ zeros) led_cancelled refl refl refl fits_cancelled refl refl

  pub left_meets : Meets key (left key)
  left_meets = meets key is Cancelled None (held 0 (first Running) Once) (0x100000001 ∷ 0 ∷ 0 ∷ zeros) led_left refl refl refl fits_left refl refl

-- ---- steps

abbrev first_one : Held → List Held → Held
first_one h [] = h
first_one h (g ∷ gs) = g

-- what is so of the one processor of a view
pub one_held : (P : Held → Type 0) (h : Held) → P h → (g : Held) → h ∷ [] ≡ g ∷ [] → P g
one_held P h p g same = subst P (ap (first_one h) same) p
