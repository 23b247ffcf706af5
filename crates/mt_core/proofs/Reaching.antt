-- Turns come to an end, and what they lead to is reached by events, of which a release is the last.
use Rattle.std.proofs.Common.{◌≡◌, ◌≢◌, ◌∙◌, ap, sym, refl, subst, arith, ℕ, zero, suc, ◌<◌, ⊎_elim, inl, Bool, true, false, List, [], ◌∷◌, length, Option, None, Some, slice_get}
use Rattle.std.specs.Prelude.{◌||◌, ◌&&◌, IsSome, if◌then◌else◌, nat_lt, not}
use Rattle.std.specs.List.{list_all, list_any}
use Rattle.std.specs.Option.{option_map_or}
use Rattle.std.proofs.lemmas.Option.{slice_get_within}
use Rattle.mt_regs.specs.RegisterFile.{RegisterFile}
use Rattle.mt_machine.specs.declared.event.Event.{Event}
use Rattle.mt_machine.specs.declared.event.Event.TheVariants.{FlushTlb, Release}
use Rattle.mt_machine.specs.declared.go.Go.{Go}
use Rattle.mt_machine.specs.declared.go.Go.TheVariants.{Pending, Given, Cancelled}
use Rattle.mt_machine.specs.System.{Processor, System}
use Rattle.mt_machine.specs.Machine.{AreEnabled, Calls, Goes, IsEnabled, Machine, MachineEvent, Order, Reached, Steps, after, at_start, due, due_at, go_of, has_released, is_cancelled, is_over, is_waiting_to_pass, next, own_step, run, step}
use Rattle.mt_machine.specs.Start.{IsQuiet}
use Rattle.mt_machine.specs.Update.{is_release, updated}
use Rattle.mt_laws.proofs.Barrier.Barriers.{flush_era, step_stages}
use Rattle.mt_laws.proofs.Barrier.Ranks.{At, all_at, at_set, stage_at}
use Rattle.mt_laws.proofs.Barrier.Stages.{Stage, stage_of, stages}
use Rattle.mt_laws.proofs.Clearing.Late.{at_same}
use Rattle.mt_laws.proofs.Invariant.Runs.{reached_run}
use Rattle.mt_laws.proofs.Updates.Whole.{over_released}
use Rattle.mt_laws.specs.Updates.{order_of_call}
use Rattle.mt_core.specs.Arises.{Arises, by_event, from_start}
use Rattle.mt_core.specs.Rounds.{EndsByRelease, IsUpdateByEvents, Rounds, TurnsEnd, UpdatesAreReached, again, each_steps, ended, given_where, in_order}
use Rattle.mt_core.proofs.Arising.{machine, step_length}
use Rattle.mt_core.proofs.Progress.{IsDecided, all_true, arises_steps, each_decided, each_falls, lasts, remaining_decided}
use Rattle.mt_bus.proofs.Changed.{processor_of}
use Rattle.mt_core.proofs.Turns.{goes_on, over_empty, rounds_course, rounds_end, rounds_whole}
use Rattle.mt_core.proofs.Work.{release_is, work_of}

-- ---- one after the other

pub reached_on : {p m n : Machine} → Reached p m → Reached m n → Reached p n
reached_on first at_start = first
reached_on first (after e later enabled) = after e (reached_on first later) enabled

-- ---- turns end

record Turns (m : Machine) : Type 0 where
  last : Machine
  rounds : Rounds m last

turns_below : (most : ℕ) (m : Machine) → Arises m → IsDecided m → work_of m < most → Turns m
turns_below zero m a decided low = absurd (omega arith)
turns_below (suc most) m a decided low = one (turns_below most (each_steps m) (arises_steps (in_order m) m a) (each_decided m decided)) m.order refl
  where
    one : (work_of (each_steps m) < most → Turns (each_steps m)) → (o : Option Order) → m.order ≡ o → Turns m
    one later None is = record { last = m; rounds = ended is }
    one later (Some o) is =
        let some : IsSome m.order = subst (λ (x : Option Order). IsSome x) (sym is) refl in
        let falls = each_falls m a some decided in
        let rest = later (omega arith) in
        record { last = rest.last; rounds = again some rest.rounds }

turns_of : (m : Machine) → Arises m → IsDecided m → Turns m
turns_of m a decided = turns_below (suc (work_of m)) m a decided (omega arith)

given_decided : (s : System) (o : Order) → IsDecided (next (machine s (Some o)) Goes)
given_decided s o = remaining_decided (record o { go = Given }) s (is_over (record o { go = Given }) s.processors) (λ is. absurd (cc is))

ends_from : (m n : Machine) → Arises n → IsDecided n → Reached m n → (t : Machine) × Rounds n t × Reached m t
ends_from m n a decided reached =
    let t = turns_of n a decided in
    let c = rounds_course t.rounds in
    (t.last, t.rounds, subst (Reached m) c.leads (reached_run c.es m n reached c.enabled))

pub turns_end : TurnsEnd
turns_end m a = one (go_of m) refl
  where
    one : (g : Option Go) → go_of m ≡ g → (t : Machine) × Rounds (given_where g m) t × Reached m t
    one (Some Pending) is = ends_from m (next m Goes) (by_event Goes a is) (two m.order) (after Goes at_start is)
      where
        two : (x : Option Order) → IsDecided (next (machine m.system x) Goes)
        two None = λ h. absurd (cc h)
        two (Some o) = given_decided m.system o
    one (Some Given) is = ends_from m m a (λ h. absurd (cc (is, h))) at_start
    one (Some Cancelled) is = ends_from m m a (λ h. absurd (cc (is, h))) at_start
    one None is = ends_from m m a (λ h. absurd (cc (is, h))) at_start

-- ---- the event that ends an update whose go is given is a release

keeps_era : (goal : RegisterFile) (e : Event) (p : Processor) → e ≢ Release → (own_step goal e p).era ≡ p.era
keeps_era goal Release p other = absurd (other refl)
keeps_era goal FlushTlb p other = flush_era p.phase p
keeps_era goal e p other = refl

module _ (o : Order) (s : System) (k : ℕ) (e : Event) (p : Processor) (at : slice_get s.processors k ≡ Some p) (other : e ≢ Release) where
  same_era : (i : ℕ) (x y : Stage) → At (stages s) i x → At (stages (step o.goal e k s)) i y → y.1 ≡ x.1
  same_era i x y at_x at_y =
      ⊎_elim
      (λ (own : (i ≡ k) × (stage_of (own_step o.goal e p) ≡ y)).
      let here : x ≡ stage_of p = at_same (stages s) k x (stage_of p) (subst (λ (j : ℕ). At (stages s) j x) own.0 at_x) (stage_at s.processors k p at) in
      ap (λ (z : Stage). z.1) (sym own.1) ∙ keeps_era o.goal e p other ∙ ap (λ (z : Stage). z.1) (sym here))
      (λ (there : At (stages s) i y). let equal : x ≡ y = at_same (stages s) i x y at_x there in ap (λ (z : Stage). z.1) (sym equal))
      (at_set (stages s) k i (stage_of (own_step o.goal e p)) y (subst (λ (vs : List Stage). At vs i y) (step_stages o.goal e k s p at) at_y))

  -- where all have released after it, all had before
  had_released : list_all (has_released o) (step o.goal e k s).processors ≡ true → list_all (has_released o) s.processors ≡ true
  had_released all =
      all_true (has_released o) s.processors
      (λ i x at_x.
      let number = step_length o.goal e k s p at in
      let within = slice_get_within s.processors i x at_x in
      let y = processor_of (step o.goal e k s).processors i (omega arith) in
      let era : y.0.era ≡ x.era = same_era i (stage_of x) (stage_of y.0) (stage_at s.processors i x at_x) (stage_at (step o.goal e k s).processors i y.0 y.1) in
      ap (nat_lt o.from_era) (sym era) ∙ all_at (has_released o) (step o.goal e k s).processors i y.0 all y.1)

last_releases : (s : System) (o : Order) (k : ℕ) (e : Event) → Arises (machine s (Some o)) → o.go ≡ Given → due_at (machine s (Some o)) k ≡ Some e → is_over o (step o.goal e k s).processors ≡ true → e ≡ Release
last_releases s o k e a given enabled over = one (is_release (Steps 0 e)) refl (slice_get s.processors k) refl enabled
  where
    one : (b : Bool) → is_release (Steps 0 e) ≡ b → (x : Option Processor) → slice_get s.processors k ≡ x → option_map_or (λ p. due o s.processors p p.phase) x None ≡ Some e → e ≡ Release
    one true is x at g = release_is e is
    one false is None at g = absurd (cc g)
    one false is (Some p) at g =
        let other : e ≢ Release = λ same. let on : true ≡ false = ap (λ (v : Event). is_release (Steps 0 v)) (sym same) ∙ is in cc on in
        let all = had_released o s k e p at other (over_released o (step o.goal e k s).processors (ap is_cancelled given) over) in
        let was : is_over o s.processors ≡ true = ap (λ (b : Bool). b || (is_cancelled o.go && not (list_any (λ p. is_waiting_to_pass p.phase) s.processors))) all in
        let on : is_over o s.processors ≡ false = lasts a o refl (λ pending. let e : Given ≡ Pending = sym given ∙ pending in cc e) in
        absurd (let no : true ≡ false = sym was ∙ on in cc no)

-- without an order no go and no step is enabled
nothing_after : (es : List MachineEvent) (s : System) → AreEnabled (machine s None) es → list_all goes_on es ≡ true → es ≡ []
nothing_after [] s enabled led = refl
nothing_after (Steps k e ∷ es) s enabled led = absurd (let h = enabled.0 in cc h)
nothing_after (Goes ∷ es) s enabled led = absurd (let h = enabled.0 in cc h)
nothing_after (other ∷ es) s enabled led = absurd (cc led)

ends_by_release : (es : List MachineEvent) (s : System) (o : Order) → Arises (machine s (Some o)) → o.go ≡ Given → AreEnabled (machine s (Some o)) es → list_all goes_on es ≡ true
    → (run (machine s (Some o)) es).order ≡ None → EndsByRelease es
ends_by_release [] s o a given enabled led over = absurd (cc over)
ends_by_release (Steps k e ∷ es) s o a given enabled led over =
    one (ends_by_release es (step o.goal e k s) o) (is_over o (step o.goal e k s).processors) (last_releases s o k e a given enabled.0) (by_event (Steps k e) a enabled.0) enabled.1 over
  where
    made : Bool → Machine
    made b = machine (step o.goal e k s) (if b then None else Some o)

    one : (Arises (made false) → o.go ≡ Given → AreEnabled (made false) es → list_all goes_on es ≡ true → (run (made false) es).order ≡ None → EndsByRelease es)
        → (b : Bool) → (b ≡ true → e ≡ Release) → Arises (made b) → AreEnabled (made b) es → (run (made b) es).order ≡ None → EndsByRelease (Steps k e ∷ es)
    one later true release arisen rest over =
        let none : es ≡ [] = nothing_after es (step o.goal e k s) rest led in
        ([], k, λ i. Steps k (release refl i) ∷ none i)
    one later false release arisen rest over =
        let more = later arisen given rest led over in
        (Steps k e ∷ more.0, more.1, ap (λ (xs : List MachineEvent). Steps k e ∷ xs) more.2)
ends_by_release (Goes ∷ es) s o a given enabled led over = absurd (let h : Some o.go ≡ Some Pending = enabled.0 in cc (h, given))
ends_by_release (other ∷ es) s o a given enabled led over = absurd (cc led)

-- ---- the whole update

module _ (s : Machine) (goal : RegisterFile) (quiet : IsQuiet s) (enabled : IsEnabled s (Calls goal)) where
  abbrev called : Machine
  called = next s (Calls goal)

  abbrev given : Order
  given = record (order_of_call s goal) { go = Given }

  abbrev ready : Machine
  ready = next called Goes

  ready_arises : Arises ready
  ready_arises = by_event Goes (by_event (Calls goal) (from_start (inl quiet)) enabled) refl

  last_of : (n : Machine) (es : List MachineEvent) → AreEnabled ready es → list_all goes_on es ≡ true → run ready es ≡ n → n.order ≡ None → 0 < length s.system.processors → EndsByRelease es
  last_of n es more led leads over some = one (is_over given s.system.processors) refl ready_arises more (ap (λ (m : Machine). m.order) leads ∙ over)
    where
      made : Bool → Machine
      made b = machine s.system (if b then None else Some given)

      one : (b : Bool) → is_over given s.system.processors ≡ b → Arises (made b) → AreEnabled (made b) es → (run (made b) es).order ≡ None → EndsByRelease es
      one true is a rest over =
          absurd (let none = over_empty s goal quiet enabled n s.system.processors refl (over_released given s.system.processors refl is) in
          let r : ⊥ = omega arith in r)
      one false is a rest over = ends_by_release es s.system given a refl rest led over

  by_events : (es : List MachineEvent) × IsUpdateByEvents s goal es
  by_events =
      let t = turns_of ready ready_arises (given_decided s.system (order_of_call s goal)) in
      let c = rounds_course t.rounds in
      let whole : t.last ≡ updated s.system (in_order s) goal = rounds_whole called t.last t.rounds s goal quiet enabled refl in (
        Goes ∷ c.es,
        record {
          enabled = (enabled, (refl, c.enabled));
          led = c.led;
          leads = c.leads ∙ whole;
          last = λ some.
              let end = last_of t.last c.es c.enabled c.led c.leads (rounds_end t.rounds) some in
              (Goes ∷ end.0, end.1, ap (λ (xs : List MachineEvent). Goes ∷ xs) end.2);
        },
      )

pub updates_are_reached : UpdatesAreReached
updates_are_reached s goal quiet enabled =
    let found = by_events s goal quiet enabled in
    (subst (Reached s) found.1.leads (reached_run (Calls goal ∷ found.0) s s at_start found.1.enabled), found)
