-- While an update is under way some processor has an event that is due, so each turn lowers what is left.
use Rattle.std.proofs.Common.{◌≡◌, ◌≢◌, ◌⊎◌, ◌∙◌, ap, sym, refl, subst, arith, below_more, ℕ, zero, suc, ◌+◌, ◌<◌, ◌≤◌, ⊎_elim, inl, inr, Bool, true, false, List, [], ◌∷◌, length, Option, None, Some, slice_get}
use Rattle.std.specs.Prelude.{IsSome, IsTrue, if◌then◌else◌, nat_lt, ◌-◌, ◌↔◌, not, ◌&&◌, ◌||◌, ◌==◌}
use Rattle.std.specs.List.{fold, list_all, list_any, range_with_len}
use Rattle.std.specs.Option.{option_map_or}
use Rattle.std.proofs.lemmas.Option.{slice_get_within}
use Rattle.mt_machine.specs.declared.phase.Phase.{Phase}
use Rattle.mt_machine.specs.declared.phase.Phase.TheVariants.{Running, Taken, Arrived, Arrived2}
use Rattle.mt_machine.specs.declared.event.Event.{Event}
use Rattle.mt_machine.specs.declared.event.Event.TheVariants.{Leave, Pass, Release, Take}
use Rattle.mt_machine.specs.declared.go.Go.{Go}
use Rattle.mt_machine.specs.declared.go.Go.TheVariants.{Pending, Given, Cancelled}
use Rattle.mt_machine.specs.System.{Processor, System}
use Rattle.mt_machine.specs.Access.{access}
use Rattle.mt_machine.specs.Control.{control}
use Rattle.mt_machine.specs.Machine.{Accesses, Calls, Cancels, Controls, Goes, IsEnabled, Machine, MachineEvent, Order, Steps, due, due_at, first_barrier_open, go_of, has_arrived, has_arrived_again, has_released, is_arrived_again, is_arrived, is_cancelled, is_changing, is_given, is_over, is_waiting_to_pass, next, remaining_order, second_barrier_open, step}
use Rattle.mt_machine.specs.Start.{IsBroadcast, IsQuiet}
use Rattle.mt_laws.proofs.Barrier.Ranks.{Guarded, stage_at}
use Rattle.mt_laws.proofs.Barrier.Stages.{Stage, access_stages, control_stages, stage_of, stages, stages_of}
use Rattle.mt_core.specs.Arises.{Arises, by_event, by_window, from_start, by_snooping, by_coming_up, by_going_down}
use Rattle.mt_core.specs.Rounds.{each_steps, in_order}
use Rattle.mt_core.specs.Steps.{step_after}
use Rattle.mt_core.proofs.Arising.{machine}
use Rattle.mt_core.proofs.Eras.{eras_rise}
use Rattle.mt_core.proofs.Stepping.{stands}
use Rattle.mt_core.proofs.Stopping.{ahead}
use Rattle.mt_core.proofs.Work.{falls, work_of}

-- ---- a decided update under way isn't over

abbrev pub Lasts : Machine → Type 0
Lasts m = (o : Order) → m.order ≡ Some o → o.go ≢ Pending → is_over o m.system.processors ≡ false

all_stages : (test : Stage → Bool) (ps : List Processor) → list_all (λ p. test (stage_of p)) ps ≡ list_all test (stages_of ps)
all_stages test [] = refl
all_stages test (p ∷ ps) = ap (λ b. test (stage_of p) && b) (all_stages test ps)

any_stages : (test : Stage → Bool) (ps : List Processor) → list_any (λ p. test (stage_of p)) ps ≡ list_any test (stages_of ps)
any_stages test [] = refl
any_stages test (p ∷ ps) = ap (λ b. test (stage_of p) || b) (any_stages test ps)

over_by_stages : (o : Order) (ps qs : List Processor) → stages_of qs ≡ stages_of ps → is_over o qs ≡ is_over o ps
over_by_stages o ps qs same =
    let released : list_all (has_released o) qs ≡ list_all (has_released o) ps =
    all_stages (λ x. nat_lt o.from_era x.1) qs ∙ ap (list_all (λ (x : Stage). nat_lt o.from_era x.1)) same ∙ sym (all_stages (λ x. nat_lt o.from_era x.1) ps) in
    let waits : list_any (λ p. is_waiting_to_pass p.phase) qs ≡ list_any (λ p. is_waiting_to_pass p.phase) ps =
    any_stages (λ x. is_waiting_to_pass x.0) qs ∙ ap (list_any (λ (x : Stage). is_waiting_to_pass x.0)) same ∙ sym (any_stages (λ x. is_waiting_to_pass x.0) ps) in
    λ i. released i || (is_cancelled o.go && not (waits i))

remaining_lasts : (o : Order) (ps : List Processor) (v : Order) → remaining_order o ps ≡ Some v → is_over v ps ≡ false
remaining_lasts o ps v h = one (is_over o ps) refl h
  where
    one : (b : Bool) → is_over o ps ≡ b → (if b then None else Some o) ≡ Some v → is_over v ps ≡ false
    one true is g = absurd (cc)
    one false is g = let same : o ≡ v = cc in subst (λ (x : Order). is_over x ps ≡ false) same is

next_lasts : (e : MachineEvent) (s : System) (x : Option Order) → IsEnabled (machine s x) e → Lasts (machine s x) → Lasts (next (machine s x) e)
next_lasts (Accesses k op) s x enabled h = λ o is decided. over_by_stages o s.processors (access s k op).after.processors (access_stages s k op) ∙ h o is decided
next_lasts (Controls k c) s x enabled h = λ o is decided. over_by_stages o s.processors (control s k c).after.processors (control_stages s k c) ∙ h o is decided
next_lasts (Calls goal) s x enabled h = λ o is decided. absurd (decided (ap (λ (v : Option Order). option_map_or (λ w. w.go) v Pending) (sym is)))
next_lasts Goes s None enabled h = absurd (cc)
next_lasts Goes s (Some o) enabled h = λ v is decided. remaining_lasts (record o { go = Given }) s.processors v is
next_lasts Cancels s None enabled h = absurd (cc)
next_lasts Cancels s (Some o) enabled h = λ v is decided. remaining_lasts (record o { go = Cancelled }) s.processors v is
next_lasts (Steps k e) s None enabled h = absurd (cc)
next_lasts (Steps k e) s (Some o) enabled h = λ v is decided. remaining_lasts o (step o.goal e k s).processors v is

pub lasts : {m : Machine} → Arises m → Lasts m
lasts {m} (from_start s) =
    λ o is decided. ⊎_elim
    (λ (q : IsQuiet m). absurd (let none = q.no_order in cc))
    (λ (b : (o : Order) × IsBroadcast m o). absurd (let there = b.1.order in let same : b.0 ≡ o = cc in decided (ap (λ (v : Order). v.go) (sym same) ∙ b.1.pending)))
    s
lasts (by_event {m = m} e a enabled) = next_lasts e m.system m.order enabled (lasts a)
lasts (by_window w a memory) = lasts a
lasts (by_snooping k a none) = λ o is decided. absurd (cc (none, is))
lasts (by_coming_up a none some) = λ o is decided. absurd (cc (none, is))
lasts (by_going_down a none more) = λ o is decided. absurd (cc (none, is))

-- ---- where none has an event that is due, the update is over

pub all_true : (test : Processor → Bool) (ps : List Processor) → ((i : ℕ) (p : Processor) → slice_get ps i ≡ Some p → test p ≡ true) → list_all test ps ≡ true
all_true test [] h = refl
all_true test (p ∷ ps) h = λ i. h 0 p refl i && all_true test ps (λ j q at. h (suc j) q at) i

none_true : (test : Processor → Bool) (ps : List Processor) → ((i : ℕ) (p : Processor) → slice_get ps i ≡ Some p → test p ≡ false) → list_any test ps ≡ false
none_true test [] h = refl
none_true test (p ∷ ps) h = λ i. h 0 p refl i || none_true test ps (λ j q at. h (suc j) q at) i

abbrev HasEra : Order → Processor → Type 0
HasEra o p = (p.era ≡ o.from_era) ⊎ (p.era ≡ o.from_era + 1)

module _ (o : Order) (ps : List Processor) (p : Processor) (era : HasEra o p) where
  idle_runs : (same cancelled : Bool) → (p.era == o.from_era) ≡ same → cancelled ≡ false → (if same && not cancelled then Some Take else None) ≡ None → has_released o p ≡ true
  idle_runs same true is on h = absurd (cc)
  idle_runs true false is on h = absurd (cc)
  idle_runs false false is on h = ahead o ps p era is

  idle_arrived : (cancelled opened : Bool) → cancelled ≡ false → (if cancelled then Some Leave else (if opened then Some Pass else None)) ≡ None → opened ≡ false
  idle_arrived true opened on h = absurd (cc)
  idle_arrived false true on h = absurd (cc)
  idle_arrived false false on h = refl

  idle_again : (opened : Bool) → (if opened then Some Release else None) ≡ None → opened ≡ false
  idle_again true h = absurd (cc)
  idle_again false h = refl

  module _ (on : is_cancelled o.go ≡ false) where
    arrived : (ph : Phase) → due o ps p ph ≡ None → (is_arrived ph || (is_changing ph || is_arrived_again ph || has_released o p)) ≡ true
    arrived Running h = idle_runs (p.era == o.from_era) (is_cancelled o.go) refl on h
    arrived Taken h = absurd (cc)
    arrived Arrived h = refl
    arrived Arrived2 h = refl
    arrived other h = refl

    again : first_barrier_open o ps ≡ true → (ph : Phase) → due o ps p ph ≡ None → (is_arrived_again ph || has_released o p) ≡ true
    again opened Running h = idle_runs (p.era == o.from_era) (is_cancelled o.go) refl on h
    again opened Arrived h = absurd (let shut = idle_arrived (is_cancelled o.go) (first_barrier_open o ps) on h in cc)
    again opened Arrived2 h = refl
    again opened other h = absurd (cc)

    released : second_barrier_open o ps ≡ true → (ph : Phase) → (is_arrived_again ph || has_released o p) ≡ true → due o ps p ph ≡ None → has_released o p ≡ true
    released opened Arrived2 was h = absurd (let shut = idle_again (second_barrier_open o ps) h in cc)
    released opened Running was h = was
    released opened Taken was h = was
    released opened Arrived was h = was
    released opened other was h = was

  leaves : (cancelled opened : Bool) → cancelled ≡ true → (if cancelled then Some Leave else (if opened then Some Pass else None)) ≡ None → ⊥
  leaves true opened on h = cc
  leaves false opened on h = cc

  waits_not : is_cancelled o.go ≡ true → (ph : Phase) → due o ps p ph ≡ None → is_waiting_to_pass ph ≡ false
  waits_not on Taken h = absurd (cc)
  waits_not on Arrived h = absurd (leaves (is_cancelled o.go) (first_barrier_open o ps) on h)
  waits_not on other h = refl

module _ (o : Order) (ps : List Processor) (eras : (i : ℕ) (p : Processor) → slice_get ps i ≡ Some p → HasEra o p) (idle : (i : ℕ) (p : Processor) → slice_get ps i ≡ Some p → due o ps p p.phase ≡ None) where
  all_released : is_cancelled o.go ≡ false → is_given o.go ≡ true → list_all (has_released o) ps ≡ true
  all_released on given =
      let arrive : list_all (has_arrived o) ps ≡ true = all_true (has_arrived o) ps (λ i p at. arrived o ps p (eras i p at) on p.phase (idle i p at)) in
      let first : first_barrier_open o ps ≡ true = λ i. arrive i && given i in
      let second : second_barrier_open o ps ≡ true = all_true (has_arrived_again o) ps (λ i p at. again o ps p (eras i p at) on first p.phase (idle i p at)) in
      all_true (has_released o) ps
      (λ i p at. released o ps p (eras i p at) on second p.phase (again o ps p (eras i p at) on first p.phase (idle i p at)) (idle i p at))

  none_waits : is_cancelled o.go ≡ true → list_any (λ p. is_waiting_to_pass p.phase) ps ≡ false
  none_waits on = none_true (λ p. is_waiting_to_pass p.phase) ps (λ i p at. waits_not o ps p (eras i p at) on p.phase (idle i p at))

  given_over : list_all (has_released o) ps ≡ true → is_over o ps ≡ true
  given_over all = ap (λ (b : Bool). b || (is_cancelled o.go && not (list_any (λ p. is_waiting_to_pass p.phase) ps))) all

  or_true : (b : Bool) → (b || true) ≡ true
  or_true true = refl
  or_true false = refl

  cancelled_over : is_cancelled o.go ≡ true → is_over o ps ≡ true
  cancelled_over on =
      let none = none_waits on in
      (λ i. list_all (has_released o) ps || (on i && not (none i))) ∙ or_true (list_all (has_released o) ps)

  idle_over : o.go ≢ Pending → is_over o ps ≡ true
  idle_over decided = one o.go refl
    where
      one : (go : Go) → o.go ≡ go → is_over o ps ≡ true
      one Pending is = absurd (decided is)
      one Given is = given_over (all_released (ap is_cancelled is) (ap is_given is))
      one Cancelled is = cancelled_over (ap is_cancelled is)

-- ---- some processor has an event

abbrev Found : Machine → ℕ → Type 0
Found m count = (k : ℕ) × (e : Event) × (k < count) × (due_at m k ≡ Some e)

search_due : (m : Machine) (count : ℕ) → Found m count ⊎ ((k : ℕ) → k < count → due_at m k ≡ None)
search_due m zero = inr (λ k low. absurd (omega arith))
search_due m (suc n) =
    ⊎_elim
    (λ (f : Found m n). let low : f.0 < n = f.2 in inl (f.0, f.1, omega arith, f.3))
    (λ (none : (k : ℕ) → k < n → due_at m k ≡ None). one none (due_at m n) refl)
    (search_due m n)
  where
    one : ((k : ℕ) → k < n → due_at m k ≡ None) → (x : Option Event) → due_at m n ≡ x → Found m (suc n) ⊎ ((k : ℕ) → k < suc n → due_at m k ≡ None)
    one none None is = inr (λ k low. below_more (λ j. due_at m j ≡ None) n none is k (omega arith))
    one none (Some e) is = inl (n, e, omega arith, is)

some_due : (s : System) (o : Order) → Arises (machine s (Some o)) → o.go ≢ Pending → Found (machine s (Some o)) (length s.processors)
some_due s o a decided =
    ⊎_elim
    (λ (f : Found (machine s (Some o)) (length s.processors)). f)
    (λ (none : (k : ℕ) → k < length s.processors → due_at (machine s (Some o)) k ≡ None).
    let guarded : Guarded o (stages s) = (stands a).1.kept.0 in
    let on : is_over o s.processors ≡ false = lasts a o refl decided in
    let over : is_over o s.processors ≡ true = idle_over o s.processors
    (λ i p at. guarded.eras i (stage_of p) (stage_at s.processors i p at))
    (λ i p at. ap (λ (x : Option Processor). option_map_or (λ q. due o s.processors q q.phase) x None) (sym at) ∙ none i (slice_get_within s.processors i p at))
    decided in
    absurd (cc))
    (search_due (machine s (Some o)) (length s.processors))

-- ---- turns

pub after_case : (P : Machine → Type 0) (m : Machine) (x : Option Event) (k : ℕ) → due_at m k ≡ x → (due_at m k ≡ None → P m) → ((e : Event) → due_at m k ≡ Some e → P (next m (Steps k e))) → P (option_map_or (λ e. next m (Steps k e)) x m)
after_case P m None k is none some = none is
after_case P m (Some e) k is none some = some e is

pub arises_after : (m : Machine) (k : ℕ) → Arises m → Arises (step_after m k)
arises_after m k a = after_case Arises m (due_at m k) k refl (λ none. a) (λ e due. by_event (Steps k e) a due)

pub arises_steps : (ks : List ℕ) (m : Machine) → Arises m → Arises (fold step_after m ks)
arises_steps [] m a = a
arises_steps (k ∷ ks) m a = arises_steps ks (step_after m k) (arises_after m k a)

never_rises : (m : Machine) (k : ℕ) → Arises m → work_of (step_after m k) ≤ work_of m
never_rises m k a = after_case (λ n. work_of n ≤ work_of m) m (due_at m k) k refl (λ none. omega arith) (λ e due. let low = falls m k e a due in omega arith)

steps_never_rise : (ks : List ℕ) (m : Machine) → Arises m → work_of (fold step_after m ks) ≤ work_of m
steps_never_rise [] m a = omega arith
steps_never_rise (k ∷ ks) m a =
    let first = never_rises m k a in
    let rest = steps_never_rise ks (step_after m k) (arises_after m k a) in
    omega (arith, first, rest)

turn_falls : (len start : ℕ) (m : Machine) → Arises m → (k : ℕ) (e : Event) → start ≤ k → k < start + len → due_at m k ≡ Some e → work_of (fold step_after m (range_with_len start len)) < work_of m
turn_falls zero start m a k e low high due = absurd (omega arith)
turn_falls (suc len) start m a k e low high due = one (turn_falls len (start + 1) m a k e) (due_at m start) refl
  where
    one : (start + 1 ≤ k → k < start + 1 + len → due_at m k ≡ Some e → work_of (fold step_after m (range_with_len (start + 1) len)) < work_of m) → (x : Option Event) → due_at m start ≡ x → work_of (fold step_after (step_after m start) (range_with_len (start + 1) len)) < work_of m
    one later (Some w) is =
        let first : work_of (next m (Steps start w)) < work_of m = falls m start w a is in
        let same : step_after m start ≡ next m (Steps start w) = ap (λ (x : Option Event). option_map_or (λ v. next m (Steps start v)) x m) is in
        let equal : work_of (step_after m start) ≡ work_of (next m (Steps start w)) = ap work_of same in
        let rest = steps_never_rise (range_with_len (start + 1) len) (step_after m start) (arises_after m start a) in
        omega (arith, first, equal, rest)
    one later None is =
        let same : step_after m start ≡ m = ap (λ (x : Option Event). option_map_or (λ v. next m (Steps start v)) x m) is in
        let apart : start ≡ k → ⊥ = λ g. let here : due_at m start ≡ Some e = ap (due_at m) g ∙ due in absurd (cc) in
        subst (λ (n : Machine). work_of (fold step_after n (range_with_len (start + 1) len)) < work_of m) (sym same)
        (later (omega (arith, low, apart)) (omega arith) due)

-- the coordinator has given the go or cancelled, where there is an order
abbrev pub IsDecided : Machine → Type 0
IsDecided m = go_of m ≢ Some Pending

each_falls_in : (s : System) (x : Option Order) → Arises (machine s x) → IsSome x → IsDecided (machine s x) → work_of (each_steps (machine s x)) < work_of (machine s x)
each_falls_in s None a there decided = absurd (cc)
each_falls_in s (Some o) a there decided =
    let f = some_due s o a (λ is. decided (ap Some is)) in
    turn_falls (length s.processors) 0 (machine s (Some o)) a f.0 f.1 (omega arith) (let low : f.0 < length s.processors = f.2 in omega arith) f.3

pub each_falls : (m : Machine) → Arises m → IsSome m.order → IsDecided m → work_of (each_steps m) < work_of m
each_falls m = each_falls_in m.system m.order

pub remaining_decided : (o : Order) (s : System) (b : Bool) → o.go ≢ Pending → IsDecided (machine s (if b then None else Some o))
remaining_decided o s true on is = absurd (cc)
remaining_decided o s false on is = on (cc)

next_decided : (s : System) (x : Option Order) (k : ℕ) (e : Event) → IsDecided (machine s x) → IsDecided (next (machine s x) (Steps k e))
next_decided s None k e on = on
next_decided s (Some o) k e on = remaining_decided o (step o.goal e k s) (is_over o (step o.goal e k s).processors) (λ is. on (ap Some is))

steps_decided : (ks : List ℕ) (m : Machine) → IsDecided m → IsDecided (fold step_after m ks)
steps_decided [] m on = on
steps_decided (k ∷ ks) m on =
    steps_decided ks (step_after m k) (after_case IsDecided m (due_at m k) k refl (λ none. on) (λ e due. next_decided m.system m.order k e on))

pub each_decided : (m : Machine) → IsDecided m → IsDecided (each_steps m)
each_decided m = steps_decided (in_order m) m

-- ---- what the code of a turn needs

pub same_number_after : (m : Machine) (k : ℕ) → length (step_after m k).system.processors ≡ length m.system.processors
same_number_after m k = after_case (λ n. length n.system.processors ≡ length m.system.processors) m (due_at m k) k refl (λ none. refl) (λ e due. (eras_rise m (Steps k e) due).same_number)

pub range_more : (k end : ℕ) → k < end → range_with_len k (end - k) ≡ k ∷ range_with_len (k + 1) (end - (k + 1))
range_more k end low = let more : end - k ≡ suc (end - (k + 1)) = omega arith in ap (range_with_len k) more

pub none_where_not : (x : Option Order) (b : Bool) → (IsTrue b ↔ IsSome x) → b ≡ false → x ≡ None
none_where_not None b h off = refl
none_where_not (Some o) b h off = absurd (let on : b ≡ true = h.1 refl in cc)
