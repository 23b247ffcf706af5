-- What a processor that stands so in a led machine has for its next event.
use Rattle.std.proofs.Common.{◌≡◌, ◌<◌, ◌^◌, ◌||◌, ℕ, Bool, true, List, [], length, refl, sym, ap, ◌∙◌, subst, inr, arith, Option, Some}
use Rattle.mt_laws.proofs.Words.StepLaws.{due_drains, is_drain}
use Rattle.std.specs.List.{All}
use Rattle.mt_regs.specs.Faults.{IsAccepted}
use Rattle.mt_machine.specs.declared.phase.Phase.{Phase}
use Rattle.mt_machine.specs.declared.event.Event.{Event}
use Rattle.mt_machine.specs.declared.event.Event.TheVariants.{SetNoFill, WriteBack}
use Rattle.mt_machine.specs.declared.go.Go.{Go}
use Rattle.mt_machine.specs.declared.go.Go.TheVariants.{Given, Pending}
use Rattle.mt_machine.specs.Memory.{place, word_count}
use Rattle.mt_machine.specs.System.{IsSound, Processor}
use Rattle.mt_machine.specs.Machine.{FitsGoal, Order, Reached, due, is_arrived_again, own_step, write_back_or_drop}
use Rattle.mt_machine.specs.Start.{IsStart}
use Rattle.mt_cpu.specs.Steps.{HasWritten, is_local}
use Rattle.mt_laws.specs.Kept.{IsUnderWay, OrderHolds}
use Rattle.mt_laws.proofs.Barrier.Claims.{all_get}
use Rattle.mt_laws.proofs.Invariant.Kept.{start_aligned, start_sound}
use Rattle.mt_laws.proofs.Invariant.Runs.{led_reached}
use Rattle.mt_laws.proofs.Invariant.WriteBacks.{write_backs_have_places}
use Rattle.mt_laws.proofs.Invariant.Standing.{Standing, reached_standing, start_standing, stays_sound}
use Rattle.mt_laws.proofs.Registers.UnderWay.{lines_are_low, orders_hold}
use Rattle.mt_laws.proofs.Words.Places.{place_same}
use Rattle.mt_rendezvous.specs.declared.view.Start.{Start}
use Rattle.mt_rendezvous.specs.Station.{order_of, broadcast, Begins}
use Rattle.mt_rendezvous.specs.Plays.{StandsInUpdate, own_event, written}
use Rattle.mt_laws.proofs.Steps.Counts.{Ready, is_past, left_of, one_less}
use Rattle.mt_laws.proofs.Steps.StepCounts.{ready}
use Rattle.mt_rendezvous.proofs.Local.{due_alone, local_changing, works_in, written_is}

written_drains : (e : Event) (a v : ℕ) → written e ≡ Some (a, v) → is_drain e ≡ true
unfolding is_drain
written_drains (WriteBack b w) a v h = refl
written_drains other a v h = absurd (cc)

-- only a cache that is emptied writes a word of memory
writes_dirty : (p : Processor) (e : Event) (a v : ℕ) (ph : Phase) → ((o : Order) (ps : List Processor) → due o ps p ph ≡ Some e) → Order → written e ≡ Some (a, v) → write_back_or_drop p ≡ e
writes_dirty p e a v ph is o w = due_drains o [] p ph e (is o []) (written_drains e a v w)

module _ (t : Start) (begins : Begins t) (go : Go) (k : ℕ) (p : Processor) (st : StandsInUpdate t go k p) where
  abbrev start : IsStart (broadcast t)
  start = inr (order_of t Pending, begins.broadcasts)

  reached : Reached (broadcast t) st.machine
  reached = led_reached st.led

  holds : OrderHolds st.machine (order_of t go)
  holds = orders_hold (broadcast t) st.machine (order_of t go) start reached st.order

  sound : IsSound st.machine.system
  sound = stays_sound (broadcast t) st.machine start reached

  standing : Standing t.ram.windows st.machine
  standing = reached_standing t.ram.windows (start_aligned (broadcast t) start) reached (start_standing (broadcast t) start)

  under_way : IsUnderWay (order_of t go) p
  under_way = all_get (IsUnderWay (order_of t go)) st.machine.system.processors holds.each k p st.at

  pub accepted_goal : IsAccepted t.goal
  accepted_goal = holds.goal_accepted

  pub fits_goal : FitsGoal t.goal p
  fits_goal = under_way.fits

  pub has_written : HasWritten t.goal p
  has_written = under_way.written

  pub low_numbers : All (λ l. l.number < 2 ^ 46) p.lines
  low_numbers = (all_get (λ q. All (λ l. l.number < 2 ^ 46) q.lines × All (λ l. l.number < 2 ^ 46) q.buffers) st.machine.system.processors (lines_are_low st.machine.system sound) k p st.at).0

  ready_for : Ready p
  ready_for = ready t.ram.windows (start_aligned (broadcast t) start) k st.machine.system (order_of t go) p st.at
      (subst (λ (x : Option Order). Standing t.ram.windows (record { system = st.machine.system; order = x })) st.order standing)

  -- its own event brings it nearer to the second barrier
  pub nearer : is_local p.phase ≡ true → left_of (own_step t.goal (own_event t p) p) < left_of p
  nearer here =
      let own : (o : Order) (ps : List Processor) → due o ps p p.phase ≡ Some (own_event t p) = (λ o ps. due_alone o (order_of t Given) ps [] p SetNoFill p.phase here) in
      let past : is_past p.phase ≡ true = ap (λ (b : Bool). b || is_arrived_again p.phase) (local_changing p.phase here) in
      let quiet = (works_in t.goal p (own_event t p) p.phase refl here own (order_of t go)).2 in
      let falls = (one_less (order_of t go) [] p ready_for p.phase (own_event t p) refl past (own (order_of t go) []) quiet).0 in
      omega arith

  -- the word that is written back has a place
  pub back_place : (e : Event) (a v : ℕ) → is_local p.phase ≡ true → ((o : Order) (ps : List Processor) → due o ps p p.phase ≡ Some e) → written e ≡ Some (a, v)
      → (j : ℕ) × (place t.ram a ≡ Some j) × (j < length t.ram.words)
  back_place e a v here is word =
      let written_here = writes_dirty p e a v p.phase is (order_of t go) word ∙ written_is e a v word in
      let r = write_backs_have_places st.machine.system k p a v sound st.at written_here in
      let m = standing.agrees.stands.memory in
      (r.0, place_same t.ram st.machine.system.memory a (sym m.windows) ∙ r.1, (let b = r.2 in let c = sound.memory.counted in let d = (start_sound (broadcast t) start).memory.counted in let w = ap word_count m.windows in omega arith))
