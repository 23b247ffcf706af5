-- The number of steps from a take to a release.
use Rattle.std.proofs.Common.{◌≡◌, ◌≢◌, ◌⊎◌, ℕ, zero, suc, ◌+◌, ◌==◌, List, [], ◌∷◌, ◌++◌, length, set, Some, None, Option, Bool, true, false, refl, sym, ap, ◌∙◌, arith, inl, inr, ⊎_elim, eq-eqb, append_assoc, subst}
use Rattle.std.specs.Prelude.{slice_get, if◌then◌else◌, cond, not, ◌&&◌, ◌||◌}
use Rattle.std.specs.List.{count_by, list_all}
use Rattle.std.specs.Option.{option_map_or}
use Rattle.std.proofs.lemmas.Bool.{eqb-true, eqb-false}
use Rattle.mt_regs.specs.Registers.{writable}
use Rattle.mt_machine.specs.declared.phase.Phase.{Phase}
use Rattle.mt_machine.specs.declared.phase.Phase.TheVariants.{Running, Taken, Arrived, Passed}
use Rattle.mt_machine.specs.declared.event.Event.{Event}
use Rattle.mt_machine.specs.declared.event.Event.TheVariants.{Take, Arrive, Leave, Pass, Release}
use Rattle.mt_machine.specs.Memory.{Window}
use Rattle.mt_machine.specs.System.{Processor, System}
use Rattle.mt_machine.specs.Access.{access, is_running}
use Rattle.mt_machine.specs.Control.{control}
use Rattle.mt_machine.specs.Machine.{Machine, Order, MachineEvent, Accesses, Controls, Calls, Goes, Cancels, Steps, IsEnabled, next, due, own_step, before_own, step, is_cancelled, is_waiting_to_pass, first_barrier_open, remaining_order, run, AreEnabled}
use Rattle.mt_machine.specs.Update.{dirty_count, is_step_of, is_release}
use Rattle.mt_laws.proofs.Steps.Counts.{first_drop}
use Rattle.mt_laws.specs.Barriers.{IsAt}
use Rattle.mt_laws.specs.Counts.{CountOfSteps, IsCounted, other_events}
use Rattle.mt_laws.specs.Kept.{is_take_step}
use Rattle.mt_laws.proofs.Barrier.Stages.{Stage, stage_of, stages, access_stages, control_stages}
use Rattle.mt_laws.proofs.Barrier.Ranks.{At, processor_at, stage_at, and_left, and_right}
use Rattle.mt_laws.proofs.Barrier.Barriers.{step_stages}
use Rattle.mt_laws.proofs.Clearing.Renewed.{is_take, left_alone}
use Rattle.mt_laws.proofs.Words.MemoryLaws.{AllAligned}
use Rattle.mt_laws.proofs.Words.AccessLaws.{changed_at}
use Rattle.mt_laws.proofs.Invariant.Kept.{start_aligned}
use Rattle.mt_laws.proofs.Invariant.Standing.{Standing, standing_next, start_standing, reached_standing}
use Rattle.mt_laws.proofs.Steps.StepCounts.{count_more, count_append, past_count}
use Rattle.mt_laws.proofs.Invariant.Runs.{run_join}

-- the steps before the pass that are left
abbrev to_pass : Phase → ℕ
to_pass Taken = 1
to_pass other = 0

waiting_not_running : (ph : Phase) → is_waiting_to_pass ph ≡ true → is_running ph ≡ false
waiting_not_running Running h = absurd (cc)
waiting_not_running other h = refl

pub set_elsewhere : (vs : List Stage) (j k : ℕ) (y : Stage) → k ≢ j → slice_get (set vs j y) k ≡ slice_get vs k
set_elsewhere [] j k y apart = refl
set_elsewhere (v ∷ vs) zero zero y apart = absurd (apart refl)
set_elsewhere (v ∷ vs) zero (suc k) y apart = refl
set_elsewhere (v ∷ vs) (suc j) zero y apart = refl
set_elsewhere (v ∷ vs) (suc j) (suc k) y apart = set_elsewhere vs j k y (λ e. apart (ap suc e))

abbrev HasPhase : ℕ → Phase → System → Type 0
HasPhase k ph s = (q : Processor) × (slice_get s.processors k ≡ Some q) × (q.phase ≡ ph)

has_phase : (k : ℕ) (s : System) (x : Stage) → At (stages s) k x → HasPhase k x.0 s
has_phase k s x at = let found = processor_at s.processors k x at in (found.0, found.1, ap (λ (y : Stage). y.0) found.2)

-- an event that is no step of its own leaves its phase
phase_left : (k : ℕ) (s : System) (o : Order) (p : Processor) → slice_get s.processors k ≡ Some p → (e : MachineEvent) → is_step_of k e ≡ false → IsEnabled (record { system = s; order = Some o }) e → HasPhase k p.phase (next (record { system = s; order = Some o }) e).system
phase_left k s o p at (Accesses j op) off enabled = has_phase k (access s j op).after (stage_of p) (ap (λ vs. slice_get vs k) (access_stages s j op) ∙ stage_at s.processors k p at)
phase_left k s o p at (Controls j c) off enabled = has_phase k (control s j c).after (stage_of p) (ap (λ vs. slice_get vs k) (control_stages s j c) ∙ stage_at s.processors k p at)
phase_left k s o p at (Calls goal) off enabled = (p, at, refl)
phase_left k s o p at Goes off enabled = (p, at, refl)
phase_left k s o p at Cancels off enabled = (p, at, refl)
phase_left k s o p at (Steps j e) off enabled = one (slice_get s.processors j) refl enabled
  where
    one : (x : Option Processor) → slice_get s.processors j ≡ x → option_map_or (λ r. due o s.processors r r.phase) x None ≡ Some e → HasPhase k p.phase (step o.goal e j s)
    one None is h = absurd (cc)
    one (Some r) is h =
        has_phase k (step o.goal e j s) (stage_of p)
        (ap (λ vs. slice_get vs k) (step_stages o.goal e j s r is) ∙ set_elsewhere (stages s) j k (stage_of (own_step o.goal e r)) (λ g. eqb-false j k off (sym g)) ∙ stage_at s.processors k p at)

-- with no order either
phase_kept : (k : ℕ) (s : System) (v : Option Order) (p : Processor) → slice_get s.processors k ≡ Some p → (e : MachineEvent) → is_step_of k e ≡ false → IsEnabled (record { system = s; order = v }) e → HasPhase k p.phase (next (record { system = s; order = v }) e).system
phase_kept k s (Some o) p at e off enabled = phase_left k s o p at e off enabled
phase_kept k s None p at (Accesses j op) off enabled = has_phase k (access s j op).after (stage_of p) (ap (λ vs. slice_get vs k) (access_stages s j op) ∙ stage_at s.processors k p at)
phase_kept k s None p at (Controls j c) off enabled = has_phase k (control s j c).after (stage_of p) (ap (λ vs. slice_get vs k) (control_stages s j c) ∙ stage_at s.processors k p at)
phase_kept k s None p at (Calls goal) off enabled = (p, at, refl)
phase_kept k s None p at Goes off enabled = absurd (cc)
phase_kept k s None p at Cancels off enabled = absurd (cc)
phase_kept k s None p at (Steps j w) off enabled = absurd (cc)

-- its own step before the pass is to arrive or to leave
own_waiting : (o : Order) (ps : List Processor) (p : Processor) (ph : Phase) (w : Event) → is_waiting_to_pass ph ≡ true → due o ps p ph ≡ Some w → (w ≡ Leave) ⊎ (((ph ≡ Taken) × (w ≡ Arrive)) ⊎ ((ph ≡ Arrived) × (w ≡ Pass)))
own_waiting o ps p Taken w waits h = one (is_cancelled o.go) h
  where
    one : (b : Bool) → Some (if b then Leave else Arrive) ≡ Some w → (w ≡ Leave) ⊎ (((Taken ≡ Taken) × (w ≡ Arrive)) ⊎ ((Taken ≡ Arrived) × (w ≡ Pass)))
    one true g = inl (cc)
    one false g = inr (inl (refl, cc))
own_waiting o ps p Arrived w waits h = one (is_cancelled o.go) (first_barrier_open o ps) h
  where
    one : (b f : Bool) → (if b then Some Leave else (if f then Some Pass else None)) ≡ Some w → (w ≡ Leave) ⊎ (((Arrived ≡ Taken) × (w ≡ Arrive)) ⊎ ((Arrived ≡ Arrived) × (w ≡ Pass)))
    one true f g = inl (cc)
    one false true g = inr (inr (refl, cc))
    one false false g = absurd (cc)
own_waiting o ps p other w waits h = absurd (cc)

pub own_running : (o : Order) (ps : List Processor) (p : Processor) (ph : Phase) (w : Event) → is_running ph ≡ true → due o ps p ph ≡ Some w → w ≡ Take
own_running o ps p Running w runs h = one (p.era == o.from_era) (is_cancelled o.go) h
  where
    one : (a b : Bool) → (if a && not b then Some Take else None) ≡ Some w → w ≡ Take
    one true false g = cc
    one true true g = absurd (cc)
    one false b g = absurd (cc)
own_running o ps p other w runs h = absurd (cc)

due_here : (k j : ℕ) (s : System) (o : Order) (p : Processor) (w : Event) → slice_get s.processors k ≡ Some p → j ≡ k → IsEnabled (record { system = s; order = Some o }) (Steps j w) → due o s.processors p p.phase ≡ Some w
due_here k j s o p w at same enabled =
    let at_j : slice_get s.processors j ≡ Some p = ap (slice_get s.processors) same ∙ at in
    ap (λ (x : Option Processor). option_map_or (λ q. due o s.processors q q.phase) x None) (sym at_j) ∙ enabled

abbrev Calm : ℕ → MachineEvent → Bool
Calm k e = not (is_step_of k e && (is_take_step e || is_release e))

no_take_step : (a b c : Bool) → a ≡ true → b ≡ true → not (a && (b || c)) ≡ true → ⊥
no_take_step true true c h g n = absurd (cc)
no_take_step true false c h g n = absurd (cc)
no_take_step false b c h g n = absurd (cc)

no_release_step : (a b c : Bool) → not (a && (b || c)) ≡ true → not (a && c) ≡ true
no_release_step true true c n = absurd (cc)
no_release_step true false c n = n
no_release_step false b c n = refl

run_enabled : (es fs : List MachineEvent) (m : Machine) → AreEnabled m (es ++ fs) → AreEnabled (run m es) fs
run_enabled [] fs m h = h
run_enabled (e ∷ es) fs m h = run_enabled es fs (next m e) h.1

-- the state after a step of its own that takes nothing
own_at : (k : ℕ) (s : System) (o : Order) (p : Processor) (w : Event) → slice_get s.processors k ≡ Some p → is_take w ≡ false → slice_get (step o.goal w k s).processors k ≡ Some (own_step o.goal w p)
own_at k s o p w at quiet = changed_at (own_step o.goal w) k (before_own w k s) p (ap (λ ps. slice_get ps k) (left_alone w k s quiet) ∙ at)

arrive_takes_nothing : is_take Arrive ≡ false
unfolding is_take
arrive_takes_nothing = refl

leave_takes_nothing : is_take Leave ≡ false
unfolding is_take
leave_takes_nothing = refl

pass_takes_nothing : is_take Pass ≡ false
unfolding is_take
pass_takes_nothing = refl

-- one that runs, and takes no more, doesn't come to a release
runs_on : (k : ℕ) (between : List MachineEvent) (s : System) (v : Option Order) (p : Processor) → slice_get s.processors k ≡ Some p → is_running p.phase ≡ true
    → AreEnabled (record { system = s; order = v }) (between ++ Steps k Release ∷ []) → list_all (Calm k) between ≡ true → ⊥
runs_on k [] s None p at runs enabled calm = absurd (let h = enabled.0 in cc)
runs_on k [] s (Some o) p at runs enabled calm = absurd (let h = own_running o s.processors p p.phase Release runs (due_here k k s o p Release at refl enabled.0) in cc)
runs_on k (e ∷ between) s v p at runs enabled calm =
    one (is_step_of k e) refl
    (λ q at_q runs_q. runs_on k between (next (record { system = s; order = v }) e).system (next (record { system = s; order = v }) e).order q at_q runs_q enabled.1 (and_right (Calm k e) _ calm))
  where
    own : (v : Option Order) (e : MachineEvent) → is_step_of k e ≡ true → IsEnabled (record { system = s; order = v }) e → Calm k e ≡ true → ⊥
    own v (Accesses j op) on enabled quiet = absurd (cc)
    own v (Controls j c) on enabled quiet = absurd (cc)
    own v (Calls goal) on enabled quiet = absurd (cc)
    own v Goes on enabled quiet = absurd (cc)
    own v Cancels on enabled quiet = absurd (cc)
    own None (Steps j w) on enabled quiet = absurd (cc)
    own (Some o) (Steps j w) on enabled quiet =
        let take : w ≡ Take = own_running o s.processors p p.phase w runs (due_here k j s o p w at (eqb-true j k on) enabled) in
        no_take_step (j == k) (is_take_step (Steps j w)) (is_release (Steps j w)) on (ap (λ (x : Event). is_take_step (Steps j x)) take) quiet

    one : (b : Bool) → is_step_of k e ≡ b → ((q : Processor) → slice_get (next (record { system = s; order = v }) e).system.processors k ≡ Some q → is_running q.phase ≡ true → ⊥) → ⊥
    one true on more = own v e on enabled.0 (and_left _ _ calm)
    one false off more = let kept = phase_kept k s v p at e off enabled.0 in more kept.0 kept.1 (ap is_running kept.2 ∙ runs)

module _ (ws : List Window) (aligned : AllAligned ws) (k : ℕ) where
  -- the list comes to the pass, from this phase on
  record Passing (ph : Phase) (between : List MachineEvent) (m : Machine) : Type 0 where
    before : List MachineEvent
    rest : List MachineEvent
    split : between ≡ before ++ Steps k Pass ∷ rest
    steps : count_by (is_step_of k) before ≡ to_pass ph
    there : HasPhase k Arrived (run m before).system
    stands : Standing ws (run m before)

  abbrev More : List MachineEvent → Machine → Type 0
  More between m = (q : Processor) → slice_get m.system.processors k ≡ Some q → is_waiting_to_pass q.phase ≡ true → Passing q.phase between m

  abbrev Never : Machine → Type 0
  Never m = (q : Processor) → slice_get m.system.processors k ≡ Some q → is_running q.phase ≡ true → ⊥

  abbrev with_order : System → Order → Machine
  with_order s o = record { system = s; order = Some o }

  waiting : (between : List MachineEvent) (s : System) (v : Option Order) (p : Processor) → slice_get s.processors k ≡ Some p → is_waiting_to_pass p.phase ≡ true → Standing ws (record { system = s; order = v })
      → AreEnabled (record { system = s; order = v }) (between ++ Steps k Release ∷ []) → list_all (Calm k) between ≡ true
      → Passing p.phase between (record { system = s; order = v })
  waiting between s None p at waits st enabled calm =
      absurd (let runs : is_running p.phase ≡ true = st.kept.0.running k (stage_of p) (stage_at s.processors k p at) in let off = waiting_not_running p.phase waits in cc)
  waiting [] s (Some o) p at waits st enabled calm =
      absurd (⊎_elim (λ (c : Release ≡ Leave). let r : ⊥ = absurd (cc) in r)
      (λ (c : ((p.phase ≡ Taken) × (Release ≡ Arrive)) ⊎ ((p.phase ≡ Arrived) × (Release ≡ Pass))). ⊎_elim (λ (d : (p.phase ≡ Taken) × (Release ≡ Arrive)). let r : ⊥ = absurd (let e = d.1 in cc) in r) (λ (d : (p.phase ≡ Arrived) × (Release ≡ Pass)). let r : ⊥ = absurd (let e = d.1 in cc) in r) c)
      (own_waiting o s.processors p p.phase Release waits (due_here k k s o p Release at refl enabled.0)))
  waiting (e ∷ between) s (Some o) p at waits st enabled calm =
      one (is_step_of k e) refl
      (λ q at_q waits_q. waiting between (next (record { system = s; order = Some o }) e).system (next (record { system = s; order = Some o }) e).order q at_q waits_q
      (standing_next ws aligned (record { system = s; order = Some o }) e enabled.0 st) enabled.1 (and_right (Calm k e) _ calm))
      (λ q at_q runs_q. runs_on k between (next (record { system = s; order = Some o }) e).system (next (record { system = s; order = Some o }) e).order q at_q runs_q enabled.1 (and_right (Calm k e) _ calm))
    where
      stepped_to : (j : ℕ) (w : Event) → j ≡ k → is_take w ≡ false → slice_get (step o.goal w j s).processors k ≡ Some (own_step o.goal w p)
      stepped_to j w same quiet =
          let at_j : slice_get s.processors j ≡ Some p = ap (slice_get s.processors) same ∙ at in
          ap (slice_get (step o.goal w j s).processors) (sym same) ∙ own_at j s o p w at_j quiet

      own : (e : MachineEvent) → is_step_of k e ≡ true → IsEnabled (with_order s o) e → More between (next (with_order s o) e) → Never (next (with_order s o) e) → Passing p.phase (e ∷ between) (with_order s o)
      own (Accesses j op) on enabled more never = absurd (cc)
      own (Controls j c) on enabled more never = absurd (cc)
      own (Calls goal) on enabled more never = absurd (cc)
      own Goes on enabled more never = absurd (cc)
      own Cancels on enabled more never = absurd (cc)
      own (Steps j w) on enabled more never =
          let same : j ≡ k = eqb-true j k on in
          ⊎_elim
          (λ (c : w ≡ Leave). absurd (never (own_step o.goal w p) (stepped_to j w same (ap is_take c ∙ leave_takes_nothing)) (ap (λ (v : Event). is_running (own_step o.goal v p).phase) c)))
          (λ (c : ((p.phase ≡ Taken) × (w ≡ Arrive)) ⊎ ((p.phase ≡ Arrived) × (w ≡ Pass))).
          ⊎_elim
          (λ (d : (p.phase ≡ Taken) × (w ≡ Arrive)).
          let phase : (own_step o.goal w p).phase ≡ Arrived = ap (λ (v : Event). (own_step o.goal v p).phase) d.1 in
          let r = more (own_step o.goal w p) (stepped_to j w same (ap is_take d.1 ∙ arrive_takes_nothing)) (ap is_waiting_to_pass phase) in
          let a = count_more (is_step_of k) (Steps j w) r.before in
          let some : cond {A = ℕ} (j == k) 1 0 ≡ 1 = ap (λ b. cond {A = ℕ} b 1 0) on in
          let b = r.steps in
          let left : to_pass (own_step o.goal w p).phase ≡ 0 = ap to_pass phase in
          let was : to_pass p.phase ≡ 1 = ap to_pass d.0 in
          record { before = Steps j w ∷ r.before; rest = r.rest; split = ap (λ es. Steps j w ∷ es) r.split; steps = omega arith; there = r.there; stands = r.stands })
          (λ (d : (p.phase ≡ Arrived) × (w ≡ Pass)).
          record { before = []; rest = between; split = λ i. Steps (same i) (d.1 i) ∷ between; steps = sym (ap to_pass d.0); there = (p, at, d.0); stands = st })
          c)
          (own_waiting o s.processors p p.phase w waits (due_here k j s o p w at same enabled))

      one : (b : Bool) → is_step_of k e ≡ b → More between (next (with_order s o) e) → Never (next (with_order s o) e) → Passing p.phase (e ∷ between) (with_order s o)
      one true on more never = own e on enabled.0 more never
      one false off more never =
          let same = phase_left k s o p at e off enabled.0 in
          let r = more same.0 same.1 (ap is_waiting_to_pass same.2 ∙ waits) in
          let a = count_more (is_step_of k) e r.before in
          let none : cond {A = ℕ} (is_step_of k e) 1 0 ≡ 0 = ap (λ b. cond {A = ℕ} b 1 0) off in
          let b = r.steps in
          let c : to_pass same.0.phase ≡ to_pass p.phase = ap to_pass same.2 in
          record { before = e ∷ r.before; rest = r.rest; split = ap (λ es. e ∷ es) r.split; steps = omega arith; there = r.there; stands = r.stands }

-- ---- all together

module _ (ws : List Window) (aligned : AllAligned ws) (k : ℕ) where
  taken : (s : System) (o : Order) → IsEnabled (record { system = s; order = Some o }) (Steps k Take) → HasPhase k Taken (step o.goal Take k s)
  taken s o enabled = one (slice_get s.processors k) refl enabled
    where
      put : (vs : List Stage) (k : ℕ) (y z : Stage) → At vs k z → At (set vs k y) k y
      put [] k y z h = absurd (cc)
      put (v ∷ vs) zero y z h = refl
      put (v ∷ vs) (suc k) y z h = put vs k y z h

      one : (x : Option Processor) → slice_get s.processors k ≡ x → option_map_or (λ p. due o s.processors p p.phase) x None ≡ Some Take → HasPhase k Taken (step o.goal Take k s)
      one None at h = absurd (cc)
      one (Some p) at h = has_phase k (step o.goal Take k s) (Taken, p.era) (ap (λ vs. slice_get vs k) (step_stages o.goal Take k s p at) ∙ put (stages s) k (Taken, p.era) (stage_of p) (stage_at s.processors k p at))

  -- the state after the pass, and the steps from there on
  record After (rest : List MachineEvent) (m : Machine) : Type 0 where
    passed : Processor
    at_pass : IsAt (next m (Steps k Pass)) k passed
    phase : passed.phase ≡ Passed
    count : count_by (is_step_of k) (rest ++ Steps k Release ∷ []) ≡ length (writable passed.file) + dirty_count passed.lines + first_drop passed + 9

  after_pass : (rest : List MachineEvent) (s : System) (v : Option Order) (p : Processor) → slice_get s.processors k ≡ Some p → Standing ws (record { system = s; order = v }) → AreEnabled (record { system = s; order = v }) (Steps k Pass ∷ (rest ++ Steps k Release ∷ []))
      → list_all (λ e. not (is_step_of k e && is_release e)) rest ≡ true → After rest (record { system = s; order = v })
  after_pass rest s None p at st enabled quiet = absurd (let h = enabled.0 in cc)
  after_pass rest s (Some o) p at st enabled quiet = record {
    passed = own_step o.goal Pass p;
    at_pass = own_at k s o p Pass at pass_takes_nothing;
    phase = refl;
    count = past_count ws aligned k rest (step o.goal Pass k s) (remaining_order o (step o.goal Pass k s).processors) (own_step o.goal Pass p) (own_at k s o p Pass at pass_takes_nothing) refl
        (standing_next ws aligned (record { system = s; order = Some o }) (Steps k Pass) enabled.0 st) enabled.1 quiet;
  }

  calm_rest : (before rest : List MachineEvent) → list_all (Calm k) (before ++ Steps k Pass ∷ rest) ≡ true → list_all (λ e. not (is_step_of k e && is_release e)) rest ≡ true
  calm_rest (e ∷ before) rest h = calm_rest before rest (and_right (Calm k e) _ h)
  calm_rest [] rest h = all rest (and_right (Calm k (Steps k Pass)) _ h)
    where
      both : (a b : Bool) → a ≡ true → b ≡ true → (a && b) ≡ true
      both true b h g = g
      both false b h g = absurd (cc)

      all : (es : List MachineEvent) → list_all (Calm k) es ≡ true → list_all (λ e. not (is_step_of k e && is_release e)) es ≡ true
      all [] h = refl
      all (e ∷ es) h = both _ _ (no_release_step (is_step_of k e) (is_take_step e) (is_release e) (and_left _ _ h)) (all es (and_right (Calm k e) _ h))

  pub total : (between : List MachineEvent) (s : System) (v : Option Order) → Standing ws (record { system = s; order = v }) → AreEnabled (record { system = s; order = v }) (Steps k Take ∷ (between ++ Steps k Release ∷ []))
      → list_all (Calm k) between ≡ true → IsCounted (record { system = s; order = v }) k between
  total between s None st enabled calm = absurd (let h = enabled.0 in cc)
  total between s (Some o) st enabled calm =
      let t = taken s o enabled.0 in
      let m : Machine = record { system = s; order = Some o } in
      let first : Machine = next m (Steps k Take) in
      let stf = standing_next ws aligned m (Steps k Take) enabled.0 st in
      let w = waiting ws aligned k between first.system first.order t.0 t.1 (ap is_waiting_to_pass t.2) stf enabled.1 calm in
      let mid : Machine = run first w.before in
      let joined : between ++ Steps k Release ∷ [] ≡ w.before ++ (Steps k Pass ∷ (w.rest ++ Steps k Release ∷ [])) = ap (λ es. es ++ Steps k Release ∷ []) w.split ∙ append_assoc w.before (Steps k Pass ∷ w.rest) (Steps k Release ∷ []) in
      let on : AreEnabled mid (Steps k Pass ∷ (w.rest ++ Steps k Release ∷ [])) = run_enabled w.before (Steps k Pass ∷ (w.rest ++ Steps k Release ∷ [])) first (subst (AreEnabled first) joined enabled.1) in
      let b = after_pass w.rest mid.system mid.order w.there.0 w.there.1 w.stands on (calm_rest w.before w.rest (ap (list_all (Calm k)) (sym w.split) ∙ calm)) in
      let own : cond {A = ℕ} (k == k) 1 0 ≡ 1 = ap (λ b. cond {A = ℕ} b 1 0) (eq-eqb k k refl) in
      let one : to_pass t.0.phase ≡ 1 = ap to_pass t.2 in
      record {
        before = w.before;
        rest = w.rest;
        passes = w.split;
        passed = b.passed;
        at_pass = ap (λ (x : Machine). slice_get x.system.processors k) (run_join first w.before (Steps k Pass ∷ [])) ∙ b.at_pass;
        phase = b.phase;
        count = add_up _ _ _ _ _ _ _ _ _
            (count_more (is_step_of k) (Steps k Take) (between ++ Steps k Release ∷ []))
            (ap (count_by (is_step_of k)) joined ∙ count_append (is_step_of k) w.before (Steps k Pass ∷ (w.rest ++ Steps k Release ∷ [])))
            (count_more (is_step_of k) (Steps k Pass) (w.rest ++ Steps k Release ∷ []))
            own (w.steps ∙ one) b.count (counted b.passed);
      }
    where
      add_up : (all some own before past after end drops others : ℕ) → all ≡ own + some → some ≡ before + past → past ≡ own + after → own ≡ 1 → before ≡ 1 → after ≡ end + drops + 9 → others ≡ drops + 12 → all ≡ end + others
      add_up all some own before past after end drops others a b c d e f g = omega arith

      counted : (p : Processor) → other_events p ≡ first_drop p + 12
      counted p = one p.self_snoop
        where
          one : (b : Bool) → (if b then 12 else 13) ≡ (if b then 0 else 1) + 12
          one true = refl
          one false = refl

pub count_of_steps : CountOfSteps
count_of_steps s m k between start reached enabled calm =
    let ws : List Window = s.system.memory.windows in
    let aligned = start_aligned s start in
    total ws aligned k between m.system m.order (reached_standing ws aligned reached (start_standing s start)) enabled calm
