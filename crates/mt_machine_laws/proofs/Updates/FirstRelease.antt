-- Before the first release of an update stands a first pass, and between them none releases.
use Rattle.std.proofs.Common.{◌≡◌, ◌⊎◌, ℕ, zero, suc, ◌+◌, ◌≤◌, List, [], ◌∷◌, ◌++◌, set, Some, None, Option, Bool, true, false, refl, sym, ap, subst, ◌∙◌, arith, inl, inr, ⊎_elim, lit≤}
use Rattle.std.specs.Prelude.{slice_get, if◌then◌else◌, nat_lt, ◌==◌, not, ◌&&◌, ◌||◌}
use Rattle.std.specs.List.{All, list_all}
use Rattle.std.specs.Option.{option_map_or}
use Rattle.std.proofs.lemmas.Bool.{lt-ltb}
use Rattle.mt_machine.specs.declared.phase.Phase.{Phase}
use Rattle.mt_machine.specs.declared.phase.Phase.TheVariants.{Running, Taken, Arrived, Arrived2}
use Rattle.mt_machine.specs.declared.event.Event.{Event}
use Rattle.mt_machine.specs.declared.event.Event.TheVariants.{Take, Arrive, Leave, Pass, Release}
use Rattle.mt_machine.specs.declared.go.Go.TheVariants.{Pending, Given, Cancelled}
use Rattle.mt_machine.specs.System.{Processor, System}
use Rattle.mt_machine.specs.Access.{access}
use Rattle.mt_machine.specs.Control.{control}
use Rattle.mt_machine.specs.Machine.{Machine, Order, MachineEvent, Accesses, Controls, Calls, Goes, Cancels, Steps, IsEnabled, next, due, own_step, step, remaining_order, is_over, is_given, is_cancelled, is_changing, is_arrived_again, has_passed, has_released, first_barrier_open, common_era, run, AreEnabled, Reached, at_start, after}
use Rattle.mt_machine.specs.Update.{is_release}
use Rattle.mt_machine.specs.Start.{IsStart, IsQuiet, IsBroadcast}
use Rattle.mt_laws.specs.Settled.{FirstReleaseFollows, HeldAfterEachFirst}
use Rattle.mt_laws.proofs.Barrier.Stages.{Stage, stage_of, stages, access_stages, control_stages}
use Rattle.mt_laws.proofs.Barrier.Ranks.{rank, rank_of, is_ahead, At, Guarded, at_set, processor_at, stage_at, all_fourth}
use Rattle.mt_laws.proofs.Barrier.Barriers.{Kept, keeps, reached_keeps, step_stages}
use Rattle.mt_laws.proofs.Barrier.Claims.{all_get, all_of, broadcast_rank, passed_rank, start_invariant}
use Rattle.mt_laws.proofs.Clearing.Follows.{all_append}
use Rattle.mt_laws.proofs.Clearing.Late.{at_same, set_at, set_same}
use Rattle.mt_laws.proofs.Invariant.Runs.{run_join, enabled_join}
use Rattle.mt_laws.proofs.Updates.Held.{IsBetween, own_era, release_opens, held_after_release}

-- ---- only a pass leads past the first barrier

module _ (o : Order) (ps : List Processor) (p : Processor) (w : Event) (high : 3 ≤ rank o (stage_of (own_step o.goal w p))) where
  low_event : (v : Event) → w ≡ v → ((era : ℕ) → rank o (stage_of (own_step o.goal v p)) ≤ 2) → w ≡ Pass
  low_event v is low =
      absurd (let h : 3 ≤ rank o (stage_of (own_step o.goal v p)) = subst (λ (u : Event). 3 ≤ rank o (stage_of (own_step o.goal u p))) is high in
      let l = low 0 in
      let r : ⊥ = omega arith in r)

  rank_running : (b : Bool) → rank_of Running b ≤ 2 ⊎ (b ≡ true)
  rank_running true = inr refl
  rank_running false = inl (lit≤ tt)

  leaves : is_ahead o (stage_of p) ≡ false → w ≡ Leave → w ≡ Pass
  leaves behind is = low_event Leave is (λ _. let e : rank o (Running, p.era) ≡ 0 = ap (rank_of Running) behind in omega arith)

  pub crosses : (ph : Phase) → p.phase ≡ ph → rank_of ph (is_ahead o (stage_of p)) ≤ 2 → is_ahead o (stage_of p) ≡ false → due o ps p ph ≡ Some w → w ≡ Pass
  crosses Running same low behind h = one (p.era == o.from_era) (is_cancelled o.go) h
    where
      one : (a c : Bool) → (if a && not c then Some Take else None) ≡ Some w → w ≡ Pass
      one false c g = absurd (cc)
      one true true g = absurd (cc)
      one true false g = low_event Take (cc) (λ _. lit≤ tt)
  crosses Taken same low behind h = one (is_cancelled o.go) h
    where
      one : (c : Bool) → Some (if c then Leave else Arrive) ≡ Some w → w ≡ Pass
      one true g = leaves behind (cc)
      one false g = low_event Arrive (cc) (λ _. lit≤ tt)
  crosses Arrived same low behind h = one (is_cancelled o.go) (first_barrier_open o ps) h
    where
      one : (c f : Bool) → (if c then Some Leave else (if f then Some Pass else None)) ≡ Some w → w ≡ Pass
      one true f g = leaves behind (cc)
      one false true g = cc
      one false false g = absurd (cc)
  crosses Arrived2 same low behind h = absurd (omega arith)
  crosses other same low behind h = absurd (omega arith)

-- ---- one event back

not_passed_rank : (ph : Phase) (ahead : Bool) → (is_changing ph || is_arrived_again ph || ahead) ≡ false → rank_of ph ahead ≤ 2
not_passed_rank Running true h = absurd (cc)
not_passed_rank Running false h = lit≤ tt
not_passed_rank Taken ahead h = lit≤ tt
not_passed_rank Arrived ahead h = lit≤ tt
not_passed_rank Arrived2 ahead h = absurd (cc)
not_passed_rank other ahead h = absurd (cc)

abbrev IsStartOf : Order → System → Option Order → MachineEvent → Type 0
IsStartOf o s v e = (v ≡ Some o) × All (λ q. has_passed o q ≡ false) s.processors × (k : ℕ) × (e ≡ Steps k Pass)

abbrev IsWithin : Order → System → Option Order → MachineEvent → Type 0
IsWithin o s v e = (v ≡ Some o) × IsBetween o s × (not (is_release e) ≡ true)

between_as : (o : Order) (s t : System) → stages s ≡ stages t → IsBetween o s → IsBetween o t
between_as o s t same b = record {
  one = b.one;
  stage = b.stage;
  there = subst (λ (vs : List Stage). At vs b.one b.stage) same b.there;
  past = b.past;
  behind = λ i x at. b.behind i x (subst (λ (vs : List Stage). At vs i x) (sym same) at);
}

-- what the coordinator has not said
not_yet : (o was : Order) (s : System) → was.go ≡ Pending → was.from_era ≡ o.from_era → Guarded was (stages s) → IsBetween o s → ⊥
not_yet o was s pending era g b =
    let high : 3 ≤ rank was b.stage = subst (λ (n : ℕ). 3 ≤ rank_of b.stage.0 (nat_lt n b.stage.1)) (sym era) b.past in
    let on : is_given was.go ≡ true = g.given b.one b.stage b.there high in
    let off : is_given was.go ≡ false = ap is_given pending in
    absurd (cc)

same_order : (o was : Order) (ps : List Processor) → remaining_order was ps ≡ Some o → was ≡ o
same_order o was ps is = one (is_over was ps) is
  where
    one : (b : Bool) → (if b then None else Some was) ≡ Some o → was ≡ o
    one true h = absurd (cc)
    one false h = cc

-- whether some processor has passed
abbrev SomePassed : Order → List Processor → Type 0
SomePassed o ps = ((i : ℕ) × (q : Processor) × (slice_get ps i ≡ Some q) × (has_passed o q ≡ true)) ⊎ ((i : ℕ) (q : Processor) → slice_get ps i ≡ Some q → has_passed o q ≡ false)

some_passed : (o : Order) (ps : List Processor) → SomePassed o ps
some_passed o [] = inr (λ i q at. absurd (cc))
some_passed o (p ∷ ps) = one (has_passed o p) refl (some_passed o ps)
  where
    none : has_passed o p ≡ false → ((i : ℕ) (q : Processor) → slice_get ps i ≡ Some q → has_passed o q ≡ false) → (i : ℕ) (q : Processor) → slice_get (p ∷ ps) i ≡ Some q → has_passed o q ≡ false
    none is h zero q at = let e : p ≡ q = cc in ap (has_passed o) (sym e) ∙ is
    none is h (suc i) q at = h i q at

    one : (b : Bool) → has_passed o p ≡ b → SomePassed o ps → SomePassed o (p ∷ ps)
    one true is rest = inl (0, p, refl, is)
    one false is rest = ⊎_elim
        (λ (h : (i : ℕ) × (q : Processor) × (slice_get ps i ≡ Some q) × (has_passed o q ≡ true)). let r : SomePassed o (p ∷ ps) = inl (suc h.0, h.1, h.2, h.3) in r)
        (λ (h : (i : ℕ) (q : Processor) → slice_get ps i ≡ Some q → has_passed o q ≡ false). let r : SomePassed o (p ∷ ps) = inr (none is h) in r)
        rest

module _ (o : Order) (s : System) (k : ℕ) (w : Event) (p : Processor) (at : slice_get s.processors k ≡ Some p) (g : Guarded o (stages s)) (h : due o s.processors p p.phase ≡ Some w) (b : IsBetween o (step o.goal w k s)) where
  abbrev stepped_to : Stage
  stepped_to = stage_of (own_step o.goal w p)

  here : At (stages s) k (stage_of p)
  here = stage_at s.processors k p at

  set_stages : stages (step o.goal w k s) ≡ set (stages s) k stepped_to
  set_stages = step_stages o.goal w k s p at

  now_behind : is_ahead o stepped_to ≡ false
  now_behind = b.behind k stepped_to (subst (λ (vs : List Stage). At vs k stepped_to) (sym set_stages) (set_same (stages s) k stepped_to (stage_of p) here))

  no_release : (j : ℕ) → is_release (Steps j w) ≡ false
  no_release j = one w refl
    where
      one : (v : Event) → w ≡ v → is_release (Steps j v) ≡ false
      one Release is =
          let above : nat_lt o.from_era (p.era + 1) ≡ true = ⊎_elim (λ (e : p.era ≡ o.from_era). lt-ltb o.from_era (p.era + 1) (omega arith)) (λ (e : p.era ≡ o.from_era + 1). lt-ltb o.from_era (p.era + 1) (omega arith)) (g.eras k (stage_of p) here) in
          let below : nat_lt o.from_era (p.era + 1) ≡ false = subst (λ (u : Event). is_ahead o (stage_of (own_step o.goal u p)) ≡ false) is now_behind in
          absurd (cc)
      one other is = refl

  was_behind : (i : ℕ) (x : Stage) → At (stages s) i x → is_ahead o x ≡ false
  was_behind i x there =
      ⊎_elim
      (λ (was : At (set (stages s) k stepped_to) i x). b.behind i x (subst (λ (vs : List Stage). At vs i x) (sym set_stages) was))
      (λ (m : (i ≡ k) × At (set (stages s) k stepped_to) i stepped_to).
      let same : x ≡ stage_of p = at_same (stages s) k x (stage_of p) (subst (λ (j : ℕ). At (stages s) j x) m.0 there) here in
      ap (is_ahead o) same ∙ ap (nat_lt o.from_era) (sym (own_era o p w (no_release 0))) ∙ now_behind)
      (set_at (stages s) i k x stepped_to (stage_of p) there here)

  is_first : ((i : ℕ) (q : Processor) → slice_get s.processors i ≡ Some q → has_passed o q ≡ false) → w ≡ Pass
  is_first none =
      ⊎_elim
      (λ (e : (b.one ≡ k) × (stepped_to ≡ b.stage)). crosses o s.processors p w (subst (λ (v : Stage). 3 ≤ rank o v) (sym e.1) b.past) p.phase refl (low k (stage_of p) here) (was_behind k (stage_of p) here) h)
      (λ (e : At (stages s) b.one b.stage). absurd (let l = low b.one b.stage e in let past = b.past in omega arith))
      (at_set (stages s) k b.one stepped_to b.stage (subst (λ (vs : List Stage). At vs b.one b.stage) set_stages b.there))
    where
      low : (i : ℕ) (x : Stage) → At (stages s) i x → rank o x ≤ 2
      low i x at_x =
          let found = processor_at s.processors i x at_x in
          subst (λ (v : Stage). rank o v ≤ 2) found.2 (not_passed_rank found.0.phase (is_ahead o (stage_of found.0)) (none i found.0 found.1))

  pub step_back : IsStartOf o s (Some o) (Steps k w) ⊎ IsWithin o s (Some o) (Steps k w)
  step_back =
      ⊎_elim
      (λ (some : (i : ℕ) × (q : Processor) × (slice_get s.processors i ≡ Some q) × (has_passed o q ≡ true)).
      let there : At (stages s) some.0 (stage_of some.1) = stage_at s.processors some.0 some.1 some.2 in
      let was : IsBetween o s = record {
        one = some.0;
        stage = stage_of some.1;
        there = there;
        past = passed_rank some.1.phase (is_ahead o (stage_of some.1)) (g.in_step some.0 (stage_of some.1) there) some.3;
        behind = was_behind;
      } in
      let r : IsStartOf o s (Some o) (Steps k w) ⊎ IsWithin o s (Some o) (Steps k w) = inr (refl, was, ap not (no_release k)) in r)
      (λ (none : (i : ℕ) (q : Processor) → slice_get s.processors i ≡ Some q → has_passed o q ≡ false).
      let r : IsStartOf o s (Some o) (Steps k w) ⊎ IsWithin o s (Some o) (Steps k w) = inl (refl, all_of (λ q. has_passed o q ≡ false) s.processors none, k, ap (Steps k) (is_first none)) in r)
      (some_passed o s.processors)

back : (o : Order) (e : MachineEvent) (s : System) (v : Option Order) → Kept v (stages s) → IsEnabled (record { system = s; order = v }) e → (next (record { system = s; order = v }) e).order ≡ Some o → IsBetween o (next (record { system = s; order = v }) e).system
    → IsStartOf o s v e ⊎ IsWithin o s v e
back o (Accesses k op) s v kept enabled is b = inr (is, between_as o (access s k op).after s (access_stages s k op) b, refl)
back o (Controls k c) s v kept enabled is b = inr (is, between_as o (control s k c).after s (control_stages s k c) b, refl)
back o (Calls goal) s None kept enabled is b =
    let called : Order = record { goal = goal; from_era = common_era s.processors; go = Pending } in
    let same : called ≡ o = cc in
    absurd (not_yet o called s refl (ap (λ (x : Order). x.from_era) same) (keeps (record { system = s; order = None }) (Calls goal) enabled kept) b)
back o (Calls goal) s (Some was) kept enabled is b = absurd (let e = enabled.0 in cc)
back o Goes s None kept enabled is b = absurd (cc)
back o Goes s (Some was) kept enabled is b = absurd (not_yet o was s (cc) (ap (λ (x : Order). x.from_era) (same_order o (record was { go = Given }) s.processors is)) kept b)
back o Cancels s None kept enabled is b = absurd (cc)
back o Cancels s (Some was) kept enabled is b = absurd (not_yet o was s (cc) (ap (λ (x : Order). x.from_era) (same_order o (record was { go = Cancelled }) s.processors is)) kept b)
back o (Steps k w) s None kept enabled is b = absurd (cc)
back o (Steps k w) s (Some was) kept enabled is b = one (slice_get s.processors k) refl enabled
  where
    same : was ≡ o
    same = same_order o was (step was.goal w k s).processors is

    one : (q : Option Processor) → slice_get s.processors k ≡ q → option_map_or (λ p. due was s.processors p p.phase) q None ≡ Some w → IsStartOf o s (Some was) (Steps k w) ⊎ IsWithin o s (Some was) (Steps k w)
    one None at h = absurd (cc)
    one (Some p) at h =
        subst (λ (u : Order). IsStartOf u s (Some was) (Steps k w) ⊎ IsWithin u s (Some was) (Steps k w)) same
        (step_back was s k w p at kept h (subst (λ (u : Order). IsBetween u (step was.goal w k s)) (sym same) b))

-- ---- back to the first pass

record Begun (s m : Machine) (o : Order) : Type 0 where
  from : Machine
  reached : Reached s from
  order : from.order ≡ Some o
  none_passed : All (λ q. has_passed o q ≡ false) from.system.processors
  first : ℕ
  between : List MachineEvent
  no_release : list_all (λ e. not (is_release e)) between ≡ true
  enabled : AreEnabled from (Steps first Pass ∷ between)
  leads : m ≡ run from (Steps first Pass ∷ between)

start_not_between : (s : Machine) (o : Order) → IsStart s → s.order ≡ Some o → IsBetween o s.system → ⊥
start_not_between s o start is b =
    ⊎_elim
    (λ (q : IsQuiet s). absurd (let none = q.no_order in cc))
    (λ (c : (x : Order) × IsBroadcast s x).
    let known : Some c.0 ≡ Some o = sym c.1.order ∙ is in
    let same : c.0 ≡ o = cc in
    let low : rank o b.stage ≡ 1 = subst (λ (x : Order). rank x b.stage ≡ 1) same (broadcast_rank s c.0 c.1 b.one b.stage b.there) in
    let past = b.past in
    let r : ⊥ = omega arith in r)
    start

and_more : (b : Bool) → b ≡ true → (b && true) ≡ true
and_more true h = refl
and_more false h = absurd (cc)

one_more : {s t : Machine} {o : Order} → (e : MachineEvent) → IsEnabled t e → not (is_release e) ≡ true → Begun s t o → Begun s (next t e) o
one_more e enabled quiet g = record {
  from = g.from;
  reached = g.reached;
  order = g.order;
  none_passed = g.none_passed;
  first = g.first;
  between = g.between ++ e ∷ [];
  no_release = all_append (λ e. not (is_release e)) g.between (e ∷ []) g.no_release (and_more _ quiet);
  enabled = enabled_join g.from (Steps g.first Pass ∷ g.between) (e ∷ []) g.enabled (subst (λ (x : Machine). IsEnabled x e) g.leads enabled, tt);
  leads = ap (λ (x : Machine). next x e) g.leads ∙ sym (run_join g.from (Steps g.first Pass ∷ g.between) (e ∷ []));
}

begun : {s m : Machine} → IsStart s → Reached s m → (o : Order) → m.order ≡ Some o → IsBetween o m.system → Begun s m o
begun {s} start at_start o is b = absurd (start_not_between s o start is b)
begun {s} start (after {t = t} e r enabled) o is b =
    ⊎_elim
    (λ (f : IsStartOf o t.system t.order e). record {
      from = t;
      reached = r;
      order = f.0;
      none_passed = f.1;
      first = f.2;
      between = [];
      no_release = refl;
      enabled = (subst (IsEnabled t) f.3 enabled, tt);
      leads = ap (next t) f.3;
    })
    (λ (w : IsWithin o t.system t.order e). one_more e enabled w.2 (begun start r o w.0 w.1))
    (back o e t.system t.order (reached_keeps r (start_invariant s start)) enabled is b)

-- ---- the first release

at_release : (o : Order) (s : System) (k : ℕ) → Guarded o (stages s) → All (λ q. has_released o q ≡ false) s.processors → IsEnabled (record { system = s; order = Some o }) (Steps k Release) → IsBetween o s
at_release o s k g none enabled = one (slice_get s.processors k) refl enabled
  where
    behind : (i : ℕ) (x : Stage) → At (stages s) i x → is_ahead o x ≡ false
    behind i x at =
        let found = processor_at s.processors i x at in
        ap (is_ahead o) (sym found.2) ∙ all_get (λ q. has_released o q ≡ false) s.processors none i found.0 found.1

    one : (q : Option Processor) → slice_get s.processors k ≡ q → option_map_or (λ p. due o s.processors p p.phase) q None ≡ Some Release → IsBetween o s
    one None at h = absurd (cc)
    one (Some p) at h =
        let here : At (stages s) k (stage_of p) = stage_at s.processors k p at in
        let fourth = all_fourth o s.processors g (release_opens o s k p at g (behind k (stage_of p) here) h) k (stage_of p) here in
        record { one = k; stage = stage_of p; there = here; past = omega arith; behind = behind }

pub first_release_follows : FirstReleaseFollows
first_release_follows s m o k start r is none enabled =
    let guard : Guarded o (stages m.system) = subst (λ (v : Option Order). Kept v (stages m.system)) is (reached_keeps r (start_invariant s start)) in
    let known : IsEnabled (record { system = m.system; order = Some o }) (Steps k Release) = subst (λ (v : Option Order). IsEnabled (record { system = m.system; order = v }) (Steps k Release)) is enabled in
    let g = begun start r o is (at_release o m.system k guard none known) in (
      g.from,
      g.reached,
      record {
        order = g.order;
        none_passed = g.none_passed;
        first = g.first;
        last = k;
        between = g.between;
        no_release = g.no_release;
        enabled = enabled_join g.from (Steps g.first Pass ∷ g.between) (Steps k Release ∷ []) g.enabled (subst (λ (x : Machine). IsEnabled x (Steps k Release)) g.leads enabled, tt);
        leads = ap (λ (x : Machine). next x (Steps k Release)) g.leads ∙ sym (run_join g.from (Steps g.first Pass ∷ g.between) (Steps k Release ∷ []));
      },
    )

pub held_after_each_first : HeldAfterEachFirst
held_after_each_first s m o k since start r is none enabled more =
    let f = first_release_follows s m o k start r is none enabled in
    (f.0, f.1, f.2, held_after_release s f.0 (next m (Steps k Release)) o since start f.1 f.2 more)
