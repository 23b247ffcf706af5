-- The books go along with the machine.
use Rattle.std.proofs.Common.{◌≡◌, ◌⊎◌, ◌∙◌, ap, refl, sym, subst, arith, inl, ⊎_elim, ℕ, ◌+◌, ◌<◌, ◌≤◌, zero, suc, Bool, true, false, List, [], ◌∷◌, length, set, Option, None, Some}
use Rattle.std.specs.Prelude.{cond, slice_get, map, nat_lt, not, ◌==◌, ◌&&◌, ◌||◌, if◌then◌else◌}
use Rattle.std.specs.List.{count_by, list_all, list_any}
use Rattle.std.specs.Option.{option_map, option_map_or}
use Rattle.std.proofs.lemmas.Bool.{eq-eqb, le-ltb, lt-ltb, ne_eqb}
use Rattle.mt_machine.specs.declared.event.Event.{Event}
use Rattle.mt_machine.specs.declared.event.Event.TheVariants.{Take, WriteBack, Release}
use Rattle.mt_machine.specs.declared.go.Go.{Go}
use Rattle.mt_machine.specs.declared.go.Go.TheVariants.{Pending, Given, Cancelled}
use Rattle.mt_machine.specs.declared.phase.Phase.{Phase}
use Rattle.mt_machine.specs.declared.phase.Phase.TheVariants.{Running, Taken, Arrived, Writing, Arrived2}
use Rattle.mt_machine.specs.Access.{is_running}
use Rattle.mt_machine.specs.Machine.{Calls, Cancels, Goes, Machine, Order, after, at_start, common_era, due, has_arrived, has_arrived_again, has_released, is_arrived, is_arrived_again, is_cancelled, is_changing, is_given, is_over, is_waiting_to_pass, next, remaining_order}
use Rattle.mt_machine.specs.Start.{IsStart}
use Rattle.mt_machine.specs.System.{Processor, System}
use Rattle.mt_machine.specs.Update.{led_start}
use Rattle.mt_machine.proofs.Rows.{due_row, is_row}
use Rattle.mt_laws.specs.Updates.{order_of_call}
use Rattle.mt_laws.proofs.Barrier.Barriers.{Kept, Rest, reached_keeps}
use Rattle.mt_laws.proofs.Barrier.Claims.{all_get, none_runs_of, passed_rank, start_invariant}
use Rattle.mt_laws.proofs.Barrier.Ranks.{Guarded, all_at, stage_at}
use Rattle.mt_laws.proofs.Barrier.Stages.{stage_of, stages, stages_of}
use Rattle.mt_laws.proofs.Steps.StepCounts.{count_more}
use Rattle.mt_plain.specs.declared.turn.PlainProcessor.{PlainProcessor}
use Rattle.mt_plain.specs.declared.turn.PlainStep.{PlainStep}
use Rattle.mt_plain.specs.Did.{can_count, counted, is_event, kept, kept_at, kept_by, moved}
use Rattle.mt_plain.specs.Did as did
use Rattle.mt_plain.specs.Due.{IsTold, due_event, go_of, has_flags, phase_number, phase_of, phase_place, phases, whole_flush}
use Rattle.mt_plain.proofs.Turns.{event_is}
use Rattle.mt_regs.specs.Registers.{writable}
use Rattle.mt_plain_laws.specs.Rendezvous.{AreAllowed, BeginsTelling, Books, CallsOff, EachIsTold, Gives, IsAllowed, Move, MovesAreLed, NoneRunsInBooks, Rendezvous, RendezvousIsLed, BooksTell, all_moved, begun, booked, byte_of, first_words, go_number, moved_to, processor_words, update_words, words_of}
use Rattle.mt_plain_laws.proofs.Counted.{booked_is}
use Rattle.mt_plain_laws.proofs.Flushed.{Along, due_behind, follows, grow, machine, set_here}
use Rattle.mt_plain_laws.proofs.Seen.{Seen, ahead, all_seen, era_after, seen, seen_after, seen_at, seen_of, told_of, words_seen}

-- ---- what the books of a processor are read as

flags : (r ph place : ℕ) (a b : Bool) → has_flags (record { phase = ph; place = place; registers = r; self_snoop = byte_of a; finished = byte_of b }) ≡ true
flags r ph place true true = refl
flags r ph place true false = refl
flags r ph place false true = refl
flags r ph place false false = refl

named : (ph : Phase) → slice_get (phases (phase_place ph)) (phase_number ph) ≡ Some ph
named (Writing i) = refl
named other = refl

word_is : (go : Go) → go_of (go_number go) ≡ Some go
word_is Pending = refl
word_is Given = refl
word_is Cancelled = refl

snoops_is : (b : Bool) → (byte_of b == 1) ≡ b
snoops_is true = refl
snoops_is false = refl

not_finished : (o : Order) (era : ℕ) → (era ≡ o.from_era) ⊎ (era ≡ o.from_era + 1) → (byte_of (nat_lt o.from_era era) == 0) ≡ (era == o.from_era)
not_finished o era known = ⊎_elim
    (λ (e : era ≡ o.from_era). ap (λ (b : Bool). byte_of b == 0) (le-ltb o.from_era era (omega (arith, e))) ∙ sym (eq-eqb era o.from_era e))
    (λ (e : era ≡ o.from_era + 1). ap (λ (b : Bool). byte_of b == 0) (lt-ltb o.from_era era (omega (arith, e))) ∙ sym (ne_eqb era o.from_era (λ same. omega (arith, e, same))))
    known

module _ (o : Order) (ps : List Processor) where
  pub phase_is : (p : Processor) → phase_of (processor_words o p) ≡ Some p.phase
  phase_is p =
      ap (λ (b : Bool). if b then slice_get (phases (phase_place p.phase)) (phase_number p.phase) else None) (flags (length (writable p.file)) (phase_number p.phase) (phase_place p.phase) p.self_snoop (has_released o p))
      ∙ named p.phase

  -- where the barriers are kept, each processor is told of rightly
  pub each_told : Guarded o (stages_of ps) → (k : ℕ) (p : Processor) → slice_get ps k ≡ Some p → IsTold (update_words o ps) (processor_words o p) o ps p
  each_told g k p at = record {
    phase = phase_is p;
    finished = not_finished o p.era (g.eras k (stage_of p) (stage_at ps k p at));
    word = word_is o.go;
    processors = refl;
    arrived = refl;
    arrived_again = refl;
    self_snoop = snoops_is p.self_snoop;
    registers = refl;
  }

  words_at : (rs : List Processor) (k : ℕ) (d : PlainProcessor) → slice_get (map (processor_words o) rs) k ≡ Some d → (p : Processor) × (slice_get rs k ≡ Some p) × (processor_words o p ≡ d)
  words_at [] k d at = absurd (cc)
  words_at (r ∷ rs) zero d at = (r, refl, cc)
  words_at (r ∷ rs) (suc k) d at = words_at rs k d at

  pub words_of_at : (rs : List Processor) (k : ℕ) (p : Processor) → slice_get rs k ≡ Some p → slice_get (map (processor_words o) rs) k ≡ Some (processor_words o p)
  words_of_at [] k p at = absurd (cc)
  words_of_at (r ∷ rs) zero p at = let same : r ≡ p = cc in ap (λ q. Some (processor_words o q)) same
  words_of_at (r ∷ rs) (suc k) p at = words_of_at rs k p at

  abbrev after_event : Processor → Event → did.Kept
  after_event p e = record { update = counted (update_words o ps) p.phase (whole_flush e); processor = moved (processor_words o p) p.phase (whole_flush e); status = 0 }

  abbrev refused : Processor → did.Kept
  refused p = record { update = update_words o ps; processor = processor_words o p; status = 12 }

  -- a step that is booked is an event of the machine that is due
  pub record Booked (step : PlainStep) (p : Processor) : Type 0 where
    pub event : Event
    pub due_is : due o ps p p.phase ≡ Some event
    pub is : kept (update_words o ps) (processor_words o p) step ≡ after_event p event

  pub books : (step : PlainStep) (p : Processor) → IsTold (update_words o ps) (processor_words o p) o ps p → (kept (update_words o ps) (processor_words o p) step).status ≡ 0 → Booked step p
  books step p is_told done = by_due (due o ps p p.phase) refl
    where
      leads : kept (update_words o ps) (processor_words o p) step ≡ kept_by (update_words o ps) (processor_words o p) step p.phase (option_map whole_flush (due o ps p p.phase))
      leads =
          ap (λ go. kept_at (update_words o ps) (processor_words o p) step go (phase_of (processor_words o p))) is_told.word
          ∙ ap (kept_at (update_words o ps) (processor_words o p) step (Some o.go)) is_told.phase
          ∙ ap (kept_by (update_words o ps) (processor_words o p) step p.phase) (event_is (update_words o ps) (processor_words o p) o ps p is_told)

      at_event : (e : Event) → due o ps p p.phase ≡ Some e → (t : Bool) → (is_event step (whole_flush e) && can_count (update_words o ps) p.phase (whole_flush e)) ≡ t → Booked step p
      at_event e is true allowed = record {
        event = e;
        due_is = is;
        is =
            leads
            ∙ ap (λ x. kept_by (update_words o ps) (processor_words o p) step p.phase (option_map whole_flush x)) is
            ∙ ap (λ (t : Bool). if t then after_event p e else refused p) allowed;
      }
      at_event e is false allowed =
          let other : kept (update_words o ps) (processor_words o p) step ≡ refused p =
          leads ∙ ap (λ x. kept_by (update_words o ps) (processor_words o p) step p.phase (option_map whole_flush x)) is
          ∙ ap (λ (t : Bool). if t then after_event p e else refused p) allowed in
          let twelve : (kept (update_words o ps) (processor_words o p) step).status ≡ 12 = ap (λ (x : did.Kept). x.status) other in
          absurd (cc)

      by_due : (x : Option Event) → due o ps p p.phase ≡ x → Booked step p
      by_due None is =
          let twelve : (kept (update_words o ps) (processor_words o p) step).status ≡ 12 = ap (λ (x : did.Kept). x.status) (leads ∙ ap (λ x. kept_by (update_words o ps) (processor_words o p) step p.phase (option_map whole_flush x)) is) in
          absurd (cc)
      by_due (Some e) is = at_event e is (is_event step (whole_flush e) && can_count (update_words o ps) p.phase (whole_flush e)) refl

whole_row : (e : Event) (ph : Phase) → is_row e ph ≡ true → is_row (whole_flush e) ph ≡ true
whole_row (WriteBack x v) ph row = row
whole_row other ph row = row

-- ---- an update that is over, and one that isn't decided

running_is : (ph : Phase) → is_running ph ≡ true → ph ≡ Running
running_is Running on = refl
running_is other on = absurd (cc)

-- once an update is over no step is booked
over_refuses : (o : Order) (ps : List Processor) (k : ℕ) (p : Processor) (step : PlainStep) → is_over o ps ≡ true → is_running p.phase ≡ true → slice_get ps k ≡ Some p
    → (kept (update_words o ps) (processor_words o p) step).status ≡ 0 → ⊥
over_refuses o ps k p step over runs at done =
    let phase : phase_of (processor_words o p) ≡ Some p.phase = phase_is o ps p in
    let leads : kept (update_words o ps) (processor_words o p) step ≡ kept_by (update_words o ps) (processor_words o p) step p.phase (due_event (update_words o ps) (processor_words o p) o.go Running) =
    ap (λ go. kept_at (update_words o ps) (processor_words o p) step go (phase_of (processor_words o p))) (word_is o.go)
    ∙ ap (kept_at (update_words o ps) (processor_words o p) step (Some o.go)) phase
    ∙ ap (λ ph. kept_by (update_words o ps) (processor_words o p) step p.phase (due_event (update_words o ps) (processor_words o p) o.go ph)) (running_is p.phase runs) in
    let twelve = ap (λ (x : did.Kept). x.status) leads ∙ by_tests (has_released o p) refl (is_cancelled o.go) refl in
    absurd (cc)
  where
    shut : (x c : Bool) → (x && not c) ≡ false → (kept_by (update_words o ps) (processor_words o p) step p.phase (if x && not c then Some Take else None)).status ≡ 12
    shut x c none = ap (λ (b : Bool). (kept_by (update_words o ps) (processor_words o p) step p.phase (if b then Some Take else None)).status) none

    both : (x : Bool) → (x && false) ≡ false
    both true = refl
    both false = refl

    by_tests : (r : Bool) → has_released o p ≡ r → (c : Bool) → is_cancelled o.go ≡ c
        → (kept_by (update_words o ps) (processor_words o p) step p.phase (if (byte_of (has_released o p) == 0) && not (is_cancelled o.go) then Some Take else None)).status ≡ 12
    by_tests true later c off = shut (byte_of (has_released o p) == 0) (is_cancelled o.go) (λ i. (byte_of (later i) == 0) && not (is_cancelled o.go))
    by_tests false later true off = shut (byte_of (has_released o p) == 0) (is_cancelled o.go) ((λ i. (byte_of (has_released o p) == 0) && not (off i)) ∙ both (byte_of (has_released o p) == 0))
    by_tests false later false off = absurd (by_all (list_all (has_released o) ps) refl)
      where
        by_all : (all : Bool) → list_all (has_released o) ps ≡ all → ⊥
        by_all true is = let on = all_at (has_released o) ps k p is at in cc
        by_all false is =
            let no_end : is_over o ps ≡ false = λ i. is i || (off i && not (list_any (λ q. is_waiting_to_pass q.phase) ps)) in
            cc

pending_lasts : (o : Order) (ps : List Processor) → o.go ≡ Pending → list_all (has_released o) ps ≡ false → is_over o ps ≡ false
pending_lasts o ps pending none = λ i. none i || (is_cancelled (pending i) && not (list_any (λ q. is_waiting_to_pass q.phase) ps))

none_and : (b : Bool) → (b && false) ≡ false
none_and true = refl
none_and false = refl

one_false : {X : Type 0} → (q : X → Bool) (xs : List X) (k : ℕ) (x : X) → slice_get xs k ≡ Some x → q x ≡ false → list_all q xs ≡ false
one_false q [] k x at off = absurd (cc)
one_false q (z ∷ xs) zero x at off = let same : z ≡ x = cc in ap (λ (b : Bool). b && list_all q xs) (ap q same ∙ off)
one_false q (z ∷ xs) (suc k) x at off = ap (λ (b : Bool). q z && b) (one_false q xs k x at off) ∙ none_and (q z)

or_mid : (a b c : Bool) → b ≡ true → (a || b || c) ≡ true
or_mid true b c on = refl
or_mid false true c on = refl
or_mid false false c on = absurd (cc)

stays_behind : (o : Order) (era : ℕ) (ph : Phase) (e : Event) → is_row e ph ≡ true → (is_arrived_again ph ≡ true → ⊥) → nat_lt o.from_era era ≡ false → nat_lt o.from_era (era_after e era) ≡ false
stays_behind o era ph Release row no_release behind = absurd (no_release row)
stays_behind o era ph other row no_release behind = behind

word_zero : (go : Go) → go_number go ≡ 0 → go ≡ Pending
word_zero Pending is = refl
word_zero Given is = absurd (cc)
word_zero Cancelled is = absurd (cc)

-- ---- one move

module _ (first b : Machine) (start : IsStart first) where
  pub record Follows (w : Rendezvous) : Type 0 where
    pub order : Order
    pub machine : Machine
    pub along : Along first b machine
    pub tells : BooksTell w order machine

  turn : (s : System) (o : Order) (k : ℕ) (step : PlainStep) (p : Processor) → Along first b (machine s (Some o)) → is_over o s.processors ≡ false → slice_get s.processors k ≡ Some p
      → (kept (update_words o s.processors) (processor_words o p) step).status ≡ 0 → Follows (booked (words_of o s.processors) k step (processor_words o p))
  turn s o k step p a lasts at done =
      let ps = s.processors in
      let xs = seen_of s.processors in
      let g : Guarded o (stages s) = reached_keeps a.reached (start_invariant first start) in
      let here = stage_at s.processors k p at in
      let w = books o s.processors step p (each_told o s.processors g k p at) done in
      let e = whole_flush w.event in
      let row : is_row (whole_flush w.event) p.phase ≡ true = whole_row w.event p.phase (due_row o s.processors p p.phase w.event w.due_is) in
      let in_step : is_running p.phase ≡ false → nat_lt o.from_era p.era ≡ false = g.in_step k (stage_of p) here in
      let behind = due_behind o s.processors p w.event in_step w.due_is in
      let reached : o.from_era ≤ p.era = ⊎_elim (λ (q : p.era ≡ o.from_era). omega (arith, q)) (λ (q : p.era ≡ o.from_era + 1). omega (arith, q)) (g.eras k (stage_of p) here) in
      let later : nat_lt o.from_era (p.era + 1) ≡ true = lt-ltb o.from_era (p.era + 1) (omega (arith, reached)) in
      let gone = follows first b start o k s p w.event a lasts at w.due_is in
      let y : Seen = seen_after (whole_flush w.event) (seen p) in
      let words : booked (words_of o s.processors) k step (processor_words o p) ≡ words_of o gone.system.processors =
      ap (λ (x : did.Kept). record { update = x.update; processors = set (map (processor_words o) s.processors) k x.processor }) w.is
      ∙ ap (λ (r : Rendezvous). record { update = counted r.update p.phase (whole_flush w.event); processors = set r.processors k (moved (processor_words o p) p.phase (whole_flush w.event)) }) (words_seen o s.processors)
      ∙ booked_is o (seen_of s.processors) k p.era (length (writable p.file)) p.self_snoop behind later (whole_flush w.event) p.phase row (seen_at s.processors k p at)
      ∙ ap (told_of o) (sym gone.sees)
      ∙ sym (words_seen o gone.system.processors) in
      let not_again : o.go ≡ Pending → is_arrived_again p.phase ≡ true → ⊥ = λ pending there.
      let given = g.given k (stage_of p) here (passed_rank p.phase (nat_lt o.from_era p.era) in_step (or_mid (is_changing p.phase) (is_arrived_again p.phase) (nat_lt o.from_era p.era) there)) in
      let not_given : is_given o.go ≡ false = ap is_given pending in
      cc in
      let none_released : o.go ≡ Pending → list_all (has_released o) gone.system.processors ≡ false = λ pending.
      all_seen (ahead o) gone.system.processors ∙ ap (list_all (ahead o)) gone.sees
      ∙ one_false (ahead o) (set (seen_of s.processors) k y) k y (set_here (seen_of s.processors) k (seen p) y (seen_at s.processors k p at)) (stays_behind o p.era p.phase (whole_flush w.event) row (not_again pending) behind) in
      record {
        order = o;
        machine = machine gone.system (remaining_order o gone.system.processors);
        along = gone.along;
        tells = record {
          words = words;
          order = refl;
          undecided = λ pending. ap (λ (c : Bool). if c then None else Some o) (pending_lasts o gone.system.processors pending (none_released pending));
        };
      }

  gives : (s : System) (o : Order) → Along first b (machine s (Some o)) → o.go ≡ Pending → Follows (moved_to (words_of o s.processors) Gives)
  gives s o a pending = record {
    order = record o { go = Given };
    machine = next (machine s (Some o)) Goes;
    along = grow first b (machine s (Some o)) Goes (ap Some pending) refl a;
    tells = record { words = refl; order = refl; undecided = λ h. absurd (cc) };
  }

  cancels : (s : System) (o : Order) → Along first b (machine s (Some o)) → o.go ≡ Pending → Follows (moved_to (words_of o s.processors) CallsOff)
  cancels s o a pending = record {
    order = record o { go = Cancelled };
    machine = next (machine s (Some o)) Cancels;
    along = grow first b (machine s (Some o)) Cancels (ap Some pending) refl a;
    tells = record { words = refl; order = refl; undecided = λ h. absurd (cc) };
  }

  under_way : (m : Machine) (o : Order) → m.order ≡ Some o → Along first b m → Along first b (machine m.system (Some o))
  under_way m o is a = subst (λ (x : Option Order). Along first b (machine m.system x)) is a

  steps : (m : Machine) (o : Order) (k : ℕ) (step : PlainStep) (p : Processor) → Along first b m → m.order ≡ remaining_order o m.system.processors → slice_get m.system.processors k ≡ Some p
      → (kept (update_words o m.system.processors) (processor_words o p) step).status ≡ 0 → (c : Bool) → is_over o m.system.processors ≡ c → Follows (booked (words_of o m.system.processors) k step (processor_words o p))
  steps m o k step p a order at done true over =
      let none : m.order ≡ None = order ∙ ap (λ (c : Bool). if c then None else Some o) over in
      let rest : Rest (stages m.system) = subst (λ (x : Option Order). Kept x (stages m.system)) none (reached_keeps a.reached (start_invariant first start)) in
      absurd (over_refuses o m.system.processors k p step over (rest.running k (stage_of p) (stage_at m.system.processors k p at)) at done)
  steps m o k step p a order at done false lasts =
      turn m.system o k step p (under_way m o (order ∙ ap (λ (c : Bool). if c then None else Some o) lasts) a) lasts at done

  at_words : (m : Machine) (o : Order) (move : Move) → Along first b m → m.order ≡ remaining_order o m.system.processors → (o.go ≡ Pending → m.order ≡ Some o)
      → IsAllowed (words_of o m.system.processors) move → Follows (moved_to (words_of o m.system.processors) move)
  at_words m o Gives a order undecided allowed = let pending = word_zero o.go allowed in gives m.system o (under_way m o (undecided pending) a) pending
  at_words m o CallsOff a order undecided allowed = let pending = word_zero o.go allowed in cancels m.system o (under_way m o (undecided pending) a) pending
  at_words m o (Books k step) a order undecided allowed =
      let found = words_at o m.system.processors m.system.processors k allowed.0 allowed.1 in
      let done : (kept (update_words o m.system.processors) (processor_words o found.0) step).status ≡ 0 =
      ap (λ (d : PlainProcessor). (kept (update_words o m.system.processors) d step).status) found.2 ∙ allowed.2 in
      subst Follows
      (sym (ap (λ (x : Option PlainProcessor). option_map_or (booked (words_of o m.system.processors) k step) x (words_of o m.system.processors)) (words_of_at o m.system.processors m.system.processors k found.0 found.1)))
      (steps m o k step found.0 a order found.1 done (is_over o m.system.processors) refl)

  pub moves_on : (m : Machine) (o : Order) (w : Rendezvous) (move : Move) → Along first b m → BooksTell w o m → IsAllowed w move → Follows (moved_to w move)
  moves_on m o w move a t allowed =
      subst (λ (v : Rendezvous). Follows (moved_to v move)) (sym t.words)
      (at_words m o move a t.order t.undecided (subst (λ (v : Rendezvous). IsAllowed v move) t.words allowed))

  pub all_led : (moves : List Move) (m : Machine) (o : Order) (w : Rendezvous) → Along first b m → BooksTell w o m → AreAllowed w moves → Follows (all_moved w moves)
  all_led [] m o w a t allowed = record { order = o; machine = m; along = a; tells = t }
  all_led (move ∷ moves) m o w a t allowed =
      let f = moves_on m o w move a t allowed.0 in
      all_led moves f.machine f.order (moved_to w move) f.along f.tells allowed.1

-- ---- the call

abbrev Starts : Order → Processor → Type 0
Starts o p = (p.phase ≡ Running) × (nat_lt o.from_era p.era ≡ false)

abbrev AllStart : Order → List Processor → Type 0
AllStart o ps = (i : ℕ) (p : Processor) → slice_get ps i ≡ Some p → Starts o p

first_is : (o : Order) (ps : List Processor) → AllStart o ps → map first_words ps ≡ map (processor_words o) ps
first_is o [] all = refl
first_is o (p ∷ ps) all =
    let here = all 0 p refl in
    let rest = first_is o ps (λ i q at. all (suc i) q at) in
    λ i. record {
      phase = phase_number (sym here.0 i);
      place = phase_place (sym here.0 i);
      registers = length (writable p.file);
      self_snoop = byte_of p.self_snoop;
      finished = byte_of (sym here.1 i);
    } ∷ rest i

abbrev one : Bool → ℕ
one b = cond b 1 0

none_counted : (o : Order) (q : Processor → Bool) → ((p : Processor) → Starts o p → q p ≡ false) → (ps : List Processor) → AllStart o ps → 0 ≡ count_by q ps
none_counted o q off [] all = refl
none_counted o q off (p ∷ ps) all =
    let rest = none_counted o q off ps (λ i r at. all (suc i) r at) in
    let none : one (q p) ≡ 0 = ap one (off p (all 0 p refl)) in
    let more = count_more q p ps in
    omega (arith, rest, none, more)

some_first : (ps : List Processor) → 0 < length ps → (p : Processor) × (slice_get ps 0 ≡ Some p)
some_first [] some = absurd (omega (arith, some))
some_first (p ∷ ps) some = (p, refl)

pub begins_telling : BeginsTelling
begins_telling s goal q enabled some =
    let o : Order = order_of_call s goal in
    let ps = s.system.processors in
    let all : AllStart (order_of_call s goal) s.system.processors = λ i p at.
    let era = all_get (λ (r : Processor). r.era ≡ common_era s.system.processors) s.system.processors q.one_era i p at in
    (running_is p.phase (all_get (λ (r : Processor). is_running r.phase ≡ true) s.system.processors q.running i p at), le-ltb (common_era s.system.processors) p.era (omega (arith, era))) in
    let someone = some_first s.system.processors some in
    let lasts : is_over (order_of_call s goal) s.system.processors ≡ false =
    pending_lasts (order_of_call s goal) s.system.processors refl (one_false (has_released (order_of_call s goal)) s.system.processors 0 someone.0 someone.1 (all 0 someone.0 someone.1).1) in
    let none_arrived = none_counted (order_of_call s goal) (has_arrived (order_of_call s goal))
    (λ p h. λ i. is_arrived (h.0 i) || (is_changing (h.0 i) || is_arrived_again (h.0 i) || h.1 i)) s.system.processors all in
    let none_again = none_counted (order_of_call s goal) (has_arrived_again (order_of_call s goal))
    (λ p h. λ i. is_arrived_again (h.0 i) || h.1 i) s.system.processors all in
    let firsts = first_is (order_of_call s goal) s.system.processors all in
    record {
      words = λ i. record {
        update = record { word = 0; processors = length s.system.processors; arrived = none_arrived i; arrived_again = none_again i };
        processors = firsts i;
      };
      order = sym (ap (λ (c : Bool). if c then None else Some (order_of_call s goal)) lasts);
      undecided = λ pending. refl;
    }

-- ---- the laws

pub moves_are_led : MovesAreLed
moves_are_led s m o w move start r t allowed =
    let f = moves_on s m start m o w move (record { reached = r; led = led_start }) t allowed in
    record { order = f.order; machine = f.machine; led = f.along.led; tells = f.tells }

pub rendezvous_is_led : RendezvousIsLed
rendezvous_is_led s goal moves q enabled some allowed =
    let m = next s (Calls goal) in
    let f = all_led s (next s (Calls goal)) (inl q) moves (next s (Calls goal)) (order_of_call s goal) (begun s.system.processors)
    (record { reached = after (Calls goal) at_start enabled; led = led_start }) (begins_telling s goal q enabled some) allowed in
    record { order = f.order; machine = f.machine; led = f.along.led; tells = f.tells }

pub each_is_told : EachIsTold
each_is_told s m o w k p start r t is at =
    let g : Guarded o (stages m.system) = subst (λ (x : Option Order). Kept x (stages m.system)) is (reached_keeps r (start_invariant s start)) in
    subst (λ (v : Rendezvous). (d : PlainProcessor) × (slice_get v.processors k ≡ Some d) × IsTold v.update d o m.system.processors p) (sym t.words)
    (processor_words o p, words_of_at o m.system.processors m.system.processors k p at, each_told o m.system.processors g k p at)

changes : (ph : Phase) → 2 < phase_number ph → phase_number ph < 13 → is_changing ph ≡ true
changes Running low high = absurd (omega (arith, low))
changes Taken low high = absurd (omega (arith, low))
changes Arrived low high = absurd (omega (arith, low))
changes Arrived2 low high = absurd (omega (arith, high))
changes other low high = refl

runs_at : (ph : Phase) → phase_number ph ≡ 0 → is_running ph ≡ true
runs_at Running is = refl
runs_at other is = absurd (cc)

pub none_runs_in_books : NoneRunsInBooks
none_runs_in_books s m o w i j d e start r t at_d at_e low high at_rest =
    let p = words_at o m.system.processors m.system.processors i d (ap (λ (v : Rendezvous). slice_get v.processors i) (sym t.words) ∙ at_d) in
    let q = words_at o m.system.processors m.system.processors j e (ap (λ (v : Rendezvous). slice_get v.processors j) (sym t.words) ∙ at_e) in
    let same : phase_number p.0.phase ≡ d.phase = ap (λ (x : PlainProcessor). x.phase) p.2 in
    let idle : phase_number q.0.phase ≡ 0 = ap (λ (x : PlainProcessor). x.phase) q.2 ∙ at_rest in
    let changing = changes p.0.phase (omega (arith, same, low)) (omega (arith, same, high)) in
    let runs = runs_at q.0.phase idle in
    let none = none_runs_of s m start r i j p.0 q.0 p.1 q.1 changing in
    cc
