-- From the first release on nothing is held that is older than the update.
use Rattle.std.proofs.Common.{◌≡◌, ◌≢◌, ◌⊎◌, ℕ, zero, suc, ◌+◌, List, [], ◌∷◌, Some, None, Option, Bool, true, false, refl, sym, ap, subst, ◌∙◌, arith, inl, inr, ⊎_elim, eq-eqb}
use Rattle.std.specs.Prelude.{slice_get, slice_set, if◌then◌else◌, nat_lt, ◌==◌, not, ◌&&◌}
use Rattle.std.specs.Option.{option_map_or}
use Rattle.std.proofs.lemmas.Bool.{eqb-true, ltb-true, le-ltb}
use Rattle.mt_machine.specs.declared.go.Go.{Go}
use Rattle.mt_regs.specs.RegisterFile.{RegisterFile}
use Rattle.mt_machine.specs.declared.phase.Phase.{Phase}
use Rattle.mt_machine.specs.declared.phase.Phase.TheVariants.{Running, Taken, Arrived, Writing, Arrived2}
use Rattle.mt_machine.specs.declared.event.Event.{Event}
use Rattle.mt_machine.specs.declared.event.Event.TheVariants.{Take}
use Rattle.mt_machine.specs.declared.go.Go.TheVariants.{Pending, Given, Cancelled}
use Rattle.mt_machine.specs.System.{Processor, System, change}
use Rattle.mt_machine.specs.Bus.{drain, with_buffers}
use Rattle.mt_machine.specs.Access.{is_running}
use Rattle.mt_machine.specs.Machine.{Order, MachineEvent, Accesses, Controls, Calls, Goes, Cancels, Steps, IsEnabled, next, due, own_step, before_own, step, is_over, remaining_order, is_cancelled, has_released, common_era}
use Rattle.mt_machine.proofs.Rows.{due_row, is_row}
use Rattle.mt_laws.proofs.Barrier.Stages.{stage_of, stages_of, stages}
use Rattle.mt_laws.proofs.Barrier.Ranks.{Guarded, stage_at}
use Rattle.mt_laws.proofs.Barrier.Barriers.{Rest, Kept, Invariant}
use Rattle.mt_laws.proofs.Clearing.Follows.{IsLocal, FollowsIn, follows_drain, follows_access, follows_control}
use Rattle.mt_laws.proofs.Clearing.Cleared.{Clear, is_new, clear_grows, step_clears, gone_runs}

abbrev pub AllClear : Option Order → List Processor → Type 0
AllClear None ps = (i : ℕ) (p : Processor) → slice_get ps i ≡ Some p → IsLocal p
AllClear (Some o) ps = (i : ℕ) (p : Processor) → slice_get ps i ≡ Some p → Clear o p

-- a released processor has the new era
new_era : (o : Order) (ps : List Processor) → Guarded o (stages_of ps) → (i : ℕ) (p : Processor) → slice_get ps i ≡ Some p → has_released o p ≡ true → is_new o p.era ≡ true
new_era o ps g i p at h =
    let above = ltb-true o.from_era p.era h in
    eq-eqb p.era (o.from_era + 1) (⊎_elim (λ (e : p.era ≡ o.from_era). absurd (omega arith)) (λ (e : p.era ≡ o.from_era + 1). e) (g.eras i (stage_of p) (stage_at ps i p at)))

pub runs_at : (ps : List Processor) (k j : ℕ) (p : Processor) → option_map_or (λ (x : Processor). is_running x.phase) (slice_get ps k) false ≡ true → slice_get ps j ≡ Some p → j ≡ k → is_running p.phase ≡ true
runs_at ps k j p runs at same =
    let there : slice_get ps k ≡ Some p = ap (slice_get ps) (sym same) ∙ at in
    ap (λ (x : Option Processor). option_map_or (λ (y : Processor). is_running y.phase) x false) (sym there) ∙ runs

-- an access or a control
clear_follows : (k : ℕ) (s : System) (o : Option Order) (qs : List Processor) → FollowsIn k s.processors qs → option_map_or (λ (x : Processor). is_running x.phase) (slice_get s.processors k) false ≡ true → Kept o (stages s) → AllClear o s.processors → AllClear o qs
clear_follows k s None qs f runs inv clear = λ j q at. let from = f j q at in from.2.local (clear j from.0 from.1)
clear_follows k s (Some o) qs f runs inv clear = λ j q at.
    let from = f j q at in
    clear_grows o (j ≡ k) from.0 q
    (runs_at s.processors k j from.0 runs from.1)
    (new_era o s.processors inv j from.0 from.1)
    from.2
    (clear j from.0 from.1)

-- a call, where all run
clear_called : (o : Order) (p : Processor) → is_running p.phase ≡ true → has_released o p ≡ false → IsLocal p → Clear o p
clear_called o p runs behind local =
    let gone = gone_runs p.phase runs in
    record {
      no_lines = λ h. absurd (let e = gone.0 in cc);
      no_buffers = λ h. absurd (let e = gone.1 in cc);
      no_entries = λ h. absurd (let e = gone.2 in cc);
      new_lines = λ h. absurd (cc);
      new_buffers = λ h. absurd (cc);
      new_entries = λ h. absurd (cc);
      local = local;
    }

clear_still : (o : Order) (ps qs : List Processor) → AllClear (Some o) qs → AllClear (remaining_order o ps) qs
clear_still o ps qs clear = one (is_over o ps)
  where
    one : (b : Bool) → AllClear (if b then None else Some o) qs
    one true = λ i p at. (clear i p at).local
    one false = clear

-- the processor that a change made, or one that it left
pub at_change : (f : Processor → Processor) (k : ℕ) (s : System) (j : ℕ) (q : Processor) → slice_get (change f k s).processors j ≡ Some q → ((j ≡ k) × (x : Processor) × (slice_get s.processors k ≡ Some x) × (f x ≡ q)) ⊎ ((j ≢ k) × (slice_get s.processors j ≡ Some q))
at_change f k s j q at = one s.processors k j (slice_get s.processors k) refl at
  where
    put : (ps : List Processor) (k j : ℕ) (x y q : Processor) → slice_get ps k ≡ Some x → slice_get (slice_set ps k y) j ≡ Some q → ((j ≡ k) × (y ≡ q)) ⊎ ((j ≢ k) × (slice_get ps j ≡ Some q))
    put [] k j x y q is h = absurd (cc)
    put (p ∷ ps) zero zero x y q is h = inl (refl, cc)
    put (p ∷ ps) zero (suc j) x y q is h = inr ((λ e. absurd (cc)), h)
    put (p ∷ ps) (suc k) zero x y q is h = inr ((λ e. absurd (cc)), h)
    put (p ∷ ps) (suc k) (suc j) x y q is h =
        ⊎_elim (λ (e : (j ≡ k) × (y ≡ q)). inl (ap suc e.0, e.1)) (λ (e : (j ≢ k) × (slice_get ps j ≡ Some q)). inr ((λ (g : suc j ≡ suc k). e.0 (omega arith)), e.1)) (put ps k j x y q is h)

    one : (ps : List Processor) (k j : ℕ) (x : Option Processor) → slice_get ps k ≡ x → slice_get (option_map_or (λ p. record s { processors = slice_set ps k (f p) }) x (record s { processors = ps })).processors j ≡ Some q → ((j ≡ k) × (y : Processor) × (slice_get ps k ≡ Some y) × (f y ≡ q)) ⊎ ((j ≢ k) × (slice_get ps j ≡ Some q))
    one ps k j None is h = inr ((λ (e : j ≡ k). let g : slice_get ps k ≡ Some q = ap (slice_get ps) (sym e) ∙ h in absurd (cc)), h)
    one ps k j (Some x) is h =
        ⊎_elim (λ (e : (j ≡ k) × (f x ≡ q)). inl (e.0, x, is, e.1)) (λ (e : (j ≢ k) × (slice_get ps j ≡ Some q)). inr e) (put ps k j x (f x) q is h)

drained_buffers : (k : ℕ) (s : System) (x : Processor) → slice_get (drain k s).processors k ≡ Some x → x.buffers ≡ []
drained_buffers k s x at =
    ⊎_elim
    (λ (e : (k ≡ k) × (y : Processor) × (slice_get _ k ≡ Some y) × (with_buffers (λ _. []) y ≡ x)). ap (λ (p : Processor). p.buffers) (sym e.3))
    (λ (e : (k ≢ k) × (slice_get _ k ≡ Some x)). absurd (e.0 refl))
    (at_change (with_buffers (λ _. [])) k _ k x at)

-- ---- a step

unfoldable pub is_take : Event → Bool
is_take Take = true
is_take other = false

pub left_alone : (e : Event) (k : ℕ) (s : System) → is_take e ≡ false → (before_own e k s).processors ≡ s.processors
unfolding is_take
left_alone Take k s h = absurd (cc)
left_alone other k s h = refl

pub option_case : {X Y : Type 0} → (x : Option X) (f : X → Y) (d : Y) (P : Y → Type 0) → P d → ((y : X) → P (f y)) → P (option_map_or f x d)
option_case None f d P none some = none
option_case (Some y) f d P none some = some y

-- only a running processor takes
pub no_take : (o : Order) (ps : List Processor) (p : Processor) (ph : Phase) (e : Event) → is_running ph ≡ false → due o ps p ph ≡ Some e → is_take e ≡ false
unfolding is_take
no_take o ps p ph e quiet h = one e (due_row o ps p ph e h)
  where
    one : (e : Event) → is_row e ph ≡ true → is_take e ≡ false
    one Take on = absurd (cc)
    one other on = refl

module _ (o : Order) (s : System) (k : ℕ) (p : Processor) (is_p : slice_get s.processors k ≡ Some p) (g : Guarded o (stages s)) (clear : AllClear (Some o) s.processors) where
  -- the interrupt empties the buffers, and a fence adds nothing to the others
  take_clears : nat_lt o.from_era p.era ≡ false → is_running p.phase ≡ true → AllClear (Some o) (step o.goal Take k s).processors
  take_clears behind runs j q at =
      ⊎_elim
      (λ (e : (j ≡ k) × (x : Processor) × (slice_get (drain k s).processors k ≡ Some x) × (own_step o.goal Take x ≡ q)). subst (Clear o) e.3 (own e.1 e.2))
      (λ (e : (j ≢ k) × (slice_get (drain k s).processors j ≡ Some q)). other e.0 e.1)
      (at_change (own_step o.goal Take) k (drain k s) j q at)
    where
      own : (x : Processor) → slice_get (drain k s).processors k ≡ Some x → Clear o (own_step o.goal Take x)
      own x at_x =
          let from = follows_drain k s k x at_x in
          let same : from.0 ≡ p = let e : Some (from.0) ≡ Some p = sym from.1 ∙ is_p in cc in
          let era : x.era ≡ p.era = from.2.era ∙ ap (λ (y : Processor). y.era) same in
          let unreleased : has_released o x ≡ false = ap (nat_lt o.from_era) era ∙ behind in
          record {
            no_lines = λ h. absurd (cc);
            no_buffers = λ h. drained_buffers k s x at_x;
            no_entries = λ h. absurd (cc);
            new_lines = λ h. absurd (cc);
            new_buffers = λ h. absurd (cc);
            new_entries = λ h. absurd (cc);
            local = from.2.local (clear k from.0 from.1).local;
          }

      other : j ≢ k → slice_get (drain k s).processors j ≡ Some q → Clear o q
      other apart at_q =
          let from = follows_drain k s j q at_q in
          clear_grows o (j ≡ k) from.0 q (λ e. absurd (apart e)) (new_era o s.processors g j from.0 from.1) from.2 (clear j from.0 from.1)

  -- a step that touches no other processor
  own_clears : (e : Event) → (before_own e k s).processors ≡ s.processors → Clear o (own_step o.goal e p) → AllClear (Some o) (step o.goal e k s).processors
  own_clears e left kept j q at =
      ⊎_elim
      (λ (m : (j ≡ k) × (x : Processor) × (slice_get (before_own e k s).processors k ≡ Some x) × (own_step o.goal e x ≡ q)).
      let same : p ≡ m.1 = let h : Some p ≡ Some m.1 = sym is_p ∙ ap (λ ps. slice_get ps k) (sym left) ∙ m.2 in cc in
      subst (Clear o) (ap (own_step o.goal e) same ∙ m.3) kept)
      (λ (m : (j ≢ k) × (slice_get (before_own e k s).processors j ≡ Some q)). clear j q (ap (λ ps. slice_get ps j) (sym left) ∙ m.1))
      (at_change (own_step o.goal e) k (before_own e k s) j q at)

  due_running : (a c : Bool) (e : Event) → (if a && not c then Some Take else None) ≡ Some e → (a ≡ true) × (Take ≡ e)
  due_running false c e h = absurd (cc)
  due_running true true e h = absurd (cc)
  due_running true false e h = (refl, cc)

  quiet_clears : (ph : Phase) (e : Event) → p.phase ≡ ph → is_running ph ≡ false → due o s.processors p ph ≡ Some e → AllClear (Some o) (step o.goal e k s).processors
  quiet_clears ph e same quiet h =
      own_clears e (left_alone e k s (no_take o s.processors p ph e quiet h))
      (step_clears o s.processors p (clear k p is_p) (g.in_step k (stage_of p) (stage_at s.processors k p is_p)) ph e same quiet h)

  pub steps_clear : (ph : Phase) (e : Event) → p.phase ≡ ph → due o s.processors p ph ≡ Some e → AllClear (Some o) (step o.goal e k s).processors
  steps_clear Running e same h =
      let d = due_running (p.era == o.from_era) (is_cancelled o.go) e h in
      let era = eqb-true p.era o.from_era d.0 in
      let behind : nat_lt o.from_era p.era ≡ false = le-ltb o.from_era p.era (omega arith) in
      subst (λ v. AllClear (Some o) (step o.goal v k s).processors) d.1 (take_clears behind (ap is_running same))
  steps_clear Taken e same h = quiet_clears Taken e same refl h
  steps_clear Arrived e same h = quiet_clears Arrived e same refl h
  steps_clear Arrived2 e same h = quiet_clears Arrived2 e same refl h
  steps_clear (Writing i) e same h = quiet_clears (Writing i) e same refl h
  steps_clear other e same h = quiet_clears other e same refl h

-- ---- all events

clear_called_all : (goal : RegisterFile) (ps : List Processor) → Rest (stages_of ps) → ((i : ℕ) (p : Processor) → slice_get ps i ≡ Some p → IsLocal p) → AllClear (Some (record { goal = goal; from_era = common_era ps; go = Pending })) ps
clear_called_all goal ps r local i p at =
    clear_called _ p (r.running i (stage_of p) (stage_at ps i p at)) (behind ps r i p at) (local i p at)
  where
    behind : (ps : List Processor) → Rest (stages_of ps) → (i : ℕ) (p : Processor) → slice_get ps i ≡ Some p → nat_lt (common_era ps) p.era ≡ false
    behind [] r i p at = absurd (cc)
    behind (x ∷ ps) r i p at =
        let e : p.era ≡ x.era = r.one_era i 0 (stage_of p) (stage_of x) (stage_at (x ∷ ps) i p at) refl in
        le-ltb x.era p.era (omega arith)

with_go_clear : (o : Order) (go : Go) (ps : List Processor) → AllClear (Some o) ps → AllClear (Some (record o { go = go })) ps
with_go_clear o go ps all i p at =
    let c = all i p at in
    record { no_lines = c.no_lines; no_buffers = c.no_buffers; no_entries = c.no_entries; new_lines = c.new_lines; new_buffers = c.new_buffers; new_entries = c.new_entries; local = c.local }

pub clear_next : (e : MachineEvent) (s : System) (o : Option Order) → IsEnabled (record { system = s; order = o }) e → Invariant (record { system = s; order = o }) → AllClear o s.processors
    → AllClear (next (record { system = s; order = o }) e).order (next (record { system = s; order = o }) e).system.processors
clear_next (Accesses k op) s o enabled inv clear = clear_follows k s o _ (follows_access s k op) enabled.0 inv clear
clear_next (Controls k c) s o enabled inv clear = clear_follows k s o _ (follows_control s k c) enabled.0 inv clear
clear_next (Calls goal) s None enabled inv clear = clear_called_all goal s.processors inv clear
clear_next (Calls goal) s (Some o) enabled inv clear = absurd (let e = enabled.0 in cc)
clear_next Goes s None enabled inv clear = absurd (cc)
clear_next Goes s (Some o) enabled inv clear = clear_still (record o { go = Given }) s.processors s.processors (with_go_clear o Given s.processors clear)
clear_next Cancels s None enabled inv clear = absurd (cc)
clear_next Cancels s (Some o) enabled inv clear = clear_still (record o { go = Cancelled }) s.processors s.processors (with_go_clear o Cancelled s.processors clear)
clear_next (Steps k e) s None enabled inv clear = absurd (cc)
clear_next (Steps k e) s (Some o) enabled inv clear = at_processor (slice_get s.processors k) refl enabled
  where
    at_processor : (q : Option Processor) → slice_get s.processors k ≡ q → option_map_or (λ p. due o s.processors p p.phase) q None ≡ Some e → AllClear (remaining_order o (step o.goal e k s).processors) (step o.goal e k s).processors
    at_processor None at h = absurd (cc)
    at_processor (Some p) at h = clear_still o _ _ (steps_clear o s k p at inv clear p.phase e refl h)
