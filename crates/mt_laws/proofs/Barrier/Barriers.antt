-- Each event keeps the barriers.
use Rattle.std.proofs.Common.{◌≡◌, ◌⊎◌, ℕ, zero, suc, ◌+◌, ◌<◌, ◌≤◌, List, [], ◌∷◌, length, set, Some, None, Option, Bool, true, false, refl, sym, ap, subst, ◌∙◌, arith, inl, inr, ⊎_elim, lit≤, lit<}
use Rattle.std.specs.Prelude.{slice_get, slice_index, if◌then◌else◌, nat_lt, ◌==◌, not, ◌&&◌, ◌||◌}
use Rattle.std.specs.List.{list_all, list_any}
use Rattle.std.specs.Option.{option_map_or}
use Rattle.std.proofs.lemmas.List.{map-set}
use Rattle.std.proofs.lemmas.Bool.{eqb-true, ltb-true, ltb-false, lt-ltb, le-ltb}
use Rattle.mt_regs.specs.RegisterFile.{RegisterFile}
use Rattle.mt_regs.specs.Registers.{writable}
use Rattle.mt_machine.specs.declared.phase.Phase.{Phase}
use Rattle.mt_machine.specs.declared.phase.Phase.TheVariants.{Running, Taken, Arrived, Passed, NoFill, Flushed, TlbFlushed, Writing, Enabled, Flushed2, TlbFlushed2, Normal, Restored, Arrived2}
use Rattle.mt_machine.specs.declared.event.Event.{Event}
use Rattle.mt_machine.specs.declared.event.Event.TheVariants.{Take, Arrive, Leave, Pass, SetNoFill, WriteBack, DropLines, FlushTlb, Disable, Write, Enable, SetNormal, RestorePge, ArriveAgain, Release}
use Rattle.mt_machine.specs.declared.go.Go.TheVariants.{Pending, Given, Cancelled}
use Rattle.mt_machine.specs.Memory.{word_address}
use Rattle.mt_cache.specs.Lines.{first_dirty_line, first_dirty_word}
use Rattle.mt_machine.specs.System.{Processor, System, change}
use Rattle.mt_machine.specs.Control.{reload_cr3}
use Rattle.mt_machine.specs.Access.{is_running}
use Rattle.mt_machine.specs.Machine.{Machine, Order, MachineEvent, Accesses, Controls, Calls, Goes, Cancels, Steps, IsEnabled, next, Reached, at_start, after, is_given, is_cancelled, is_waiting_to_pass, has_released, first_barrier_open, second_barrier_open, due, write_back_event, write_back_or_drop, own_step, before_own, step, flush_tlb, after_flush, after_drop, is_over, remaining_order, common_era}
use Rattle.mt_machine.proofs.Rows.{first_flush_case}
use Rattle.mt_laws.proofs.Barrier.Stages.{Stage, stage_of, stages_of, stages, access_stages, control_stages, drain_stages}
use Rattle.mt_laws.proofs.Barrier.Ranks.{rank, rank_of, is_ahead, At, Guarded, MovesStage, moved, processor_at, stage_at, all_at, not_both}

option_case : {X Y : Type 0} → (o : Option X) (f : X → Y) (d : Y) (P : Y → Type 0) → P d → ((x : X) → P (f x)) → P (option_map_or f o d)
option_case None f d P none some = none
option_case (Some x) f d P none some = some x

-- ---- the moves

pub flush_era : (ph : Phase) (p : Processor) → (flush_tlb ph p).era ≡ p.era
flush_era Flushed2 p = refl
flush_era other p = in_case p.page_global
  where
    in_case : (b : Bool) → (if b then record p { remembered_global = true; page_global = false; entries = [] } else record (reload_cr3 p) { remembered_global = false }).era ≡ p.era
    in_case true = refl
    in_case false = refl

module _ (o : Order) (ps : List Processor) (p : Processor) (era : (p.era ≡ o.from_era) ⊎ (p.era ≡ o.from_era + 1)) where
  Moved : Phase → Event → Type 0
  Moved ph e = MovesStage o ps (ph, p.era) (stage_of (own_step o.goal e p))

  climb : (ph to : Phase) (a b : ℕ) → ((c : Bool) → rank_of ph c ≡ a) → ((c : Bool) → rank_of to c ≡ b) → a ≤ b → (3 ≤ b → 3 ≤ a) → b < 5 → nat_lt o.from_era p.era ≡ false → MovesStage o ps (ph, p.era) (to, p.era)
  climb ph to a b at_a at_b up cross low behind =
      let ra : rank o (ph, p.era) ≡ a = at_a (nat_lt o.from_era p.era) in
      let rb : rank o (to, p.era) ≡ b = at_b (nat_lt o.from_era p.era) in
      record {
        to_third = λ h. let h' : 3 ≤ b = omega arith in let c : 3 ≤ a = cross h' in inl (omega arith);
        to_fifth = λ h. absurd (omega arith);
        up = inl (omega arith);
        in_step = λ _. behind;
        era = era;
      }

  inner : (ph to : Phase) → ((c : Bool) → rank_of ph c ≡ 3) → ((c : Bool) → rank_of to c ≡ 3) → nat_lt o.from_era p.era ≡ false → MovesStage o ps (ph, p.era) (to, p.era)
  inner ph to at_a at_b behind = climb ph to 3 3 at_a at_b (lit≤ tt) (λ h. h) (lit< tt) behind

  takes : (a c : Bool) (e : Event) → (p.era == o.from_era) ≡ a → (if a && not c then Some Take else None) ≡ Some e → MovesStage o ps (Running, p.era) (stage_of (own_step o.goal e p))
  takes false c e is h = absurd (cc)
  takes true true e is h = absurd (cc)
  takes true false e is h =
      let take : Take ≡ e = cc in
      let same = eqb-true p.era o.from_era is in
      let behind : nat_lt o.from_era p.era ≡ false = le-ltb o.from_era p.era (omega arith) in
      let ra : rank o (Running, p.era) ≡ 0 = ap (rank_of Running) behind in
      subst (λ v. MovesStage o ps (Running, p.era) (stage_of (own_step o.goal v p))) take
      (record { to_third = λ h. absurd (lit_low h); to_fifth = λ h. absurd (lit_lower h); up = inl (omega arith); in_step = λ _. behind; era = era })
    where
      lit_low : 3 ≤ 1 → ⊥
      lit_low h = omega arith

      lit_lower : 5 ≤ 1 → ⊥
      lit_lower h = omega arith

  leaves : (ph : Phase) (e : Event) → Leave ≡ e → is_cancelled o.go ≡ true → nat_lt o.from_era p.era ≡ false → MovesStage o ps (ph, p.era) (stage_of (own_step o.goal e p))
  leaves ph e is cancelled behind =
      let rb : rank o (Running, p.era) ≡ 0 = ap (rank_of Running) behind in
      subst (λ v. MovesStage o ps (ph, p.era) (stage_of (own_step o.goal v p))) is
      (record { to_third = λ h. absurd (omega arith); to_fifth = λ h. absurd (omega arith); up = inr cancelled; in_step = λ _. behind; era = era })

  from_taken : (c : Bool) (e : Event) → is_cancelled o.go ≡ c → Some (if c then Leave else Arrive) ≡ Some e → nat_lt o.from_era p.era ≡ false → MovesStage o ps (Taken, p.era) (stage_of (own_step o.goal e p))
  from_taken true e is h behind = leaves Taken e (cc) is behind
  from_taken false e is h behind =
      let arrive : Arrive ≡ e = cc in
      subst (λ v. MovesStage o ps (Taken, p.era) (stage_of (own_step o.goal v p))) arrive
      (climb Taken Arrived 1 2 (λ _. refl) (λ _. refl) (lit≤ tt) (λ h. absurd (omega arith)) (lit< tt) behind)

  from_arrived : (c f : Bool) (e : Event) → is_cancelled o.go ≡ c → first_barrier_open o ps ≡ f → (if c then Some Leave else (if f then Some Pass else None)) ≡ Some e → nat_lt o.from_era p.era ≡ false → MovesStage o ps (Arrived, p.era) (stage_of (own_step o.goal e p))
  from_arrived true f e is opened h behind = leaves Arrived e (cc) is behind
  from_arrived false false e is opened h behind = absurd (cc)
  from_arrived false true e is opened h behind =
      let pass : Pass ≡ e = cc in
      subst (λ v. MovesStage o ps (Arrived, p.era) (stage_of (own_step o.goal v p))) pass
      (record { to_third = λ h. inr opened; to_fifth = λ h. absurd (omega arith); up = inl (lit≤ tt); in_step = λ _. behind; era = era })

  from_arrived_again : (f : Bool) (e : Event) → second_barrier_open o ps ≡ f → (if f then Some Release else None) ≡ Some e → nat_lt o.from_era p.era ≡ false → MovesStage o ps (Arrived2, p.era) (stage_of (own_step o.goal e p))
  from_arrived_again false e opened h behind = absurd (cc)
  from_arrived_again true e opened h behind =
      let release : Release ≡ e = cc in
      let low = ltb-false o.from_era p.era behind in
      let same : p.era ≡ o.from_era = ⊎_elim (λ (q : p.era ≡ o.from_era). q) (λ (q : p.era ≡ o.from_era + 1). absurd (omega arith)) era in
      subst (λ v. MovesStage o ps (Arrived2, p.era) (stage_of (own_step o.goal v p))) release
      (record { to_third = λ h. inl (lit≤ tt); to_fifth = λ h. inr opened; up = inl (let r : rank o (Running, p.era + 1) ≡ 5 = ap (rank_of Running) (lt-ltb o.from_era (p.era + 1) (omega arith)) in omega arith); in_step = λ h. absurd (cc); era = inr (omega arith) })

  drains : (ph : Phase) (e : Event) → p.phase ≡ ph → rank_of ph false ≡ 3 → ((c : Bool) → rank_of ph c ≡ 3) → ((c : Bool) → rank_of (after_drop ph) c ≡ 3) → Some (write_back_or_drop p) ≡ Some e → nat_lt o.from_era p.era ≡ false → MovesStage o ps (ph, p.era) (stage_of (own_step o.goal e p))
  drains ph e same _ here there h behind =
      let is : write_back_or_drop p ≡ e = cc in
      let P : Event → Type 0 = λ v. MovesStage o ps (ph, p.era) (stage_of (own_step o.goal v p)) in
      let drops : P DropLines = subst (λ (v : Phase). MovesStage o ps (ph, p.era) (after_drop v, p.era)) (sym same) (inner ph (after_drop ph) here there behind) in
      let writes : (a v : ℕ) → P (WriteBack a v) = λ a v. subst (λ (u : Phase). MovesStage o ps (ph, p.era) (u, p.era)) (sym same) (inner ph ph here here behind) in
      subst P is
      (option_case (first_dirty_line p.lines) write_back_event DropLines P drops
      (λ l. option_case (first_dirty_word l) _ DropLines P drops (λ word. writes (word_address l.number word) (slice_index l.words word))))

  writes_on : (i : ℕ) (b : Bool) (e : Event) → Some (if b then Write i else Enable) ≡ Some e → nat_lt o.from_era p.era ≡ false → MovesStage o ps (Writing i, p.era) (stage_of (own_step o.goal e p))
  writes_on i true e h behind =
      let is : Write i ≡ e = cc in subst (λ v. MovesStage o ps (Writing i, p.era) (stage_of (own_step o.goal v p))) is (inner (Writing i) (Writing (i + 1)) (λ _. refl) (λ _. refl) behind)
  writes_on i false e h behind =
      let is : Enable ≡ e = cc in subst (λ v. MovesStage o ps (Writing i, p.era) (stage_of (own_step o.goal v p))) is (inner (Writing i) Enabled (λ _. refl) (λ _. refl) behind)

  flushes : (ph : Phase) (e : Event) → p.phase ≡ ph → ((c : Bool) → rank_of ph c ≡ 3) → ((c : Bool) → rank_of (after_flush ph) c ≡ 3) → FlushTlb ≡ e → nat_lt o.from_era p.era ≡ false → MovesStage o ps (ph, p.era) (stage_of (own_step o.goal e p))
  flushes ph e same here there is behind =
      let stage : (after_flush ph, p.era) ≡ stage_of (own_step o.goal FlushTlb p) = λ i. (after_flush (sym same i), sym (flush_era p.phase p) i) in
      subst (λ v. MovesStage o ps (ph, p.era) (stage_of (own_step o.goal v p))) is
      (subst (λ (y : Stage). MovesStage o ps (ph, p.era) y) stage (inner ph (after_flush ph) here there behind))

  inside : (ph to : Phase) (v e : Event) → v ≡ e → (to, p.era) ≡ stage_of (own_step o.goal v p) → ((c : Bool) → rank_of ph c ≡ 3) → ((c : Bool) → rank_of to c ≡ 3) → nat_lt o.from_era p.era ≡ false → MovesStage o ps (ph, p.era) (stage_of (own_step o.goal e p))
  inside ph to v e is stage here there behind =
      subst (λ u. MovesStage o ps (ph, p.era) (stage_of (own_step o.goal u p))) is
      (subst (λ (y : Stage). MovesStage o ps (ph, p.era) y) stage (inner ph to here there behind))

  pub step_moves : (ph : Phase) (e : Event) → p.phase ≡ ph → due o ps p ph ≡ Some e → (is_running ph ≡ false → nat_lt o.from_era p.era ≡ false) → MovesStage o ps (ph, p.era) (stage_of (own_step o.goal e p))
  step_moves Running e same h behind = takes (p.era == o.from_era) (is_cancelled o.go) e refl h
  step_moves Taken e same h behind = from_taken (is_cancelled o.go) e refl h (behind refl)
  step_moves Arrived e same h behind = from_arrived (is_cancelled o.go) (first_barrier_open o ps) e refl refl h (behind refl)
  step_moves Passed e same h behind = inside Passed NoFill SetNoFill e (cc) refl (λ _. refl) (λ _. refl) (behind refl)
  step_moves NoFill e same h behind =
      first_flush_case p e h (λ on is. flushes NoFill e same (λ _. refl) (λ _. refl) is (behind refl)) (λ off g. drains NoFill e same refl (λ _. refl) (λ _. refl) g (behind refl))
  step_moves Flushed e same h behind = flushes Flushed e same (λ _. refl) (λ _. refl) (cc) (behind refl)
  step_moves TlbFlushed e same h behind = inside TlbFlushed (Writing 0) Disable e (cc) refl (λ _. refl) (λ _. refl) (behind refl)
  step_moves (Writing i) e same h behind = writes_on i (nat_lt (i + 1) (length (writable p.file))) e h (behind refl)
  step_moves Enabled e same h behind = drains Enabled e same refl (λ _. refl) (λ _. refl) h (behind refl)
  step_moves Flushed2 e same h behind = flushes Flushed2 e same (λ _. refl) (λ _. refl) (cc) (behind refl)
  step_moves TlbFlushed2 e same h behind = inside TlbFlushed2 Normal SetNormal e (cc) refl (λ _. refl) (λ _. refl) (behind refl)
  step_moves Normal e same h behind = inside Normal Restored RestorePge e (cc) refl (λ _. refl) (λ _. refl) (behind refl)
  step_moves Restored e same h behind =
      let is : ArriveAgain ≡ e = cc in
      subst (λ u. MovesStage o ps (Restored, p.era) (stage_of (own_step o.goal u p))) is
      (climb Restored Arrived2 3 4 (λ _. refl) (λ _. refl) (lit≤ tt) (λ h. lit≤ tt) (lit< tt) (behind refl))
  step_moves Arrived2 e same h behind = from_arrived_again (second_barrier_open o ps) e refl h (behind refl)

-- ---- what a step leaves of the stages

change_sets : (f : Processor → Processor) (k : ℕ) (s : System) (p : Processor) → slice_get s.processors k ≡ Some p → stages (change f k s) ≡ set (stages s) k (stage_of (f p))
change_sets f k s p at =
    ap (λ (o : Option Processor). stages (option_map_or (λ q. record s { processors = set s.processors k (f q) }) o s)) at
    ∙ map-set stage_of s.processors k (f p)

taken_stages : (goal : RegisterFile) (k : ℕ) (s : System) (p : Processor) → slice_get s.processors k ≡ Some p → stages (step goal Take k s) ≡ set (stages s) k (Taken, p.era)
taken_stages goal k s p at =
    let drained : System = before_own Take k s in
    let same : stages drained ≡ stages s = drain_stages k s in
    let there : At (stages drained) k (stage_of p) = subst (λ (vs : List Stage). At vs k (stage_of p)) (sym same) (stage_at s.processors k p at) in
    let found = processor_at drained.processors k (stage_of p) there in
    let q = found.0 in
    let era : q.era ≡ p.era = ap (λ (x : Stage). x.1) found.2 in
    change_sets (own_step goal Take) k drained q found.1 ∙ (λ i. set (same i) k (Taken, era i))

pub step_stages : (goal : RegisterFile) (e : Event) (k : ℕ) (s : System) (p : Processor) → slice_get s.processors k ≡ Some p → stages (step goal e k s) ≡ set (stages s) k (stage_of (own_step goal e p))
step_stages goal Take k s p at = taken_stages goal k s p at
step_stages goal (WriteBack a v) k s p at = change_sets (own_step goal (WriteBack a v)) k (before_own (WriteBack a v) k s) p at
step_stages goal other k s p at = change_sets (own_step goal other) k s p at

-- ---- the invariant of all reached states

pub record Rest (vs : List Stage) : Type 0 where
  pub running : (i : ℕ) (x : Stage) → At vs i x → is_running x.0 ≡ true
  pub one_era : (i j : ℕ) (x y : Stage) → At vs i x → At vs j y → x.1 ≡ y.1

abbrev pub Kept : Option Order → List Stage → Type 0
Kept None vs = Rest vs
Kept (Some o) vs = Guarded o vs

abbrev pub Invariant : Machine → Type 0
Invariant m = Kept m.order (stages m.system)

running_if_ahead : (r a : Bool) → (r ≡ false → a ≡ false) → a ≡ true → r ≡ true
running_if_ahead true a h is = refl
running_if_ahead false a h is = absurd (let f : a ≡ false = h refl in cc)

none_at : (test : Processor → Bool) (ps : List Processor) (i : ℕ) (p : Processor) → not (list_any test ps) ≡ true → slice_get ps i ≡ Some p → test p ≡ false
none_at test [] i p none at = absurd (cc)
none_at test (q ∷ ps) zero p none at = let e : q ≡ p = cc in ap test (sym e) ∙ first_false (test q) (list_any test ps) none
  where
    first_false : (a b : Bool) → not (a || b) ≡ true → a ≡ false
    first_false true b h = absurd (cc)
    first_false false b h = refl
none_at test (q ∷ ps) (suc i) p none at = none_at test ps i p (rest_false (test q) (list_any test ps) none) at
  where
    rest_false : (a b : Bool) → not (a || b) ≡ true → not b ≡ true
    rest_false true b h = absurd (cc)
    rest_false false b h = h

back_at_start : (ph : Phase) (ahead : Bool) → (3 ≤ rank_of ph ahead → ⊥) → is_waiting_to_pass ph ≡ false → (is_running ph ≡ true) × (ahead ≡ false)
back_at_start Running true low quiet = absurd (low (lit≤ tt))
back_at_start Running false low quiet = (refl, refl)
back_at_start Taken ahead low quiet = absurd (cc)
back_at_start Arrived ahead low quiet = absurd (cc)
back_at_start Arrived2 ahead low quiet = absurd (low (lit≤ tt))
back_at_start other ahead low quiet = absurd (low (lit≤ tt))

module _ (o : Order) (ps : List Processor) (g : Guarded o (stages_of ps)) where
  all_released : list_all (has_released o) ps ≡ true → Rest (stages_of ps)
  all_released all = record {
    running = λ i x at. running_if_ahead (is_running x.0) (is_ahead o x) (g.in_step i x at) (ahead i x at);
    one_era = λ i j x y at_x at_y. later i x at_x ∙ sym (later j y at_y);
  }
    where
      ahead : (i : ℕ) (x : Stage) → At (stages_of ps) i x → is_ahead o x ≡ true
      ahead i x at = let found = processor_at ps i x at in subst (λ (z : Stage). is_ahead o z ≡ true) found.2 (all_at (has_released o) ps i found.0 all found.1)

      later : (i : ℕ) (x : Stage) → At (stages_of ps) i x → x.1 ≡ o.from_era + 1
      later i x at =
          let above = ltb-true o.from_era x.1 (ahead i x at) in
          ⊎_elim (λ (e : x.1 ≡ o.from_era). absurd (omega arith)) (λ (e : x.1 ≡ o.from_era + 1). e) (g.eras i x at)

  all_left : is_cancelled o.go ≡ true → not (list_any (λ p. is_waiting_to_pass p.phase) ps) ≡ true → Rest (stages_of ps)
  all_left cancelled none = record {
    running = λ i x at. (back i x at).0;
    one_era = λ i j x y at_x at_y. still_at i x at_x ∙ sym (still_at j y at_y);
  }
    where
      back : (i : ℕ) (x : Stage) → At (stages_of ps) i x → (is_running x.0 ≡ true) × (is_ahead o x ≡ false)
      back i x at =
          let found = processor_at ps i x at in
          let p = found.0 in
          let quiet : is_waiting_to_pass x.0 ≡ false = subst (λ (z : Stage). is_waiting_to_pass z.0 ≡ false) found.2 (none_at (λ p. is_waiting_to_pass p.phase) ps i p none found.1) in
          back_at_start x.0 (is_ahead o x) (λ h. not_both o.go (g.given i x at h) cancelled) quiet

      still_at : (i : ℕ) (x : Stage) → At (stages_of ps) i x → x.1 ≡ o.from_era
      still_at i x at =
          let below = ltb-false o.from_era x.1 (back i x at).1 in
          ⊎_elim (λ (e : x.1 ≡ o.from_era). e) (λ (e : x.1 ≡ o.from_era + 1). absurd (omega arith)) (g.eras i x at)

  over : (a b c : Bool) → list_all (has_released o) ps ≡ a → is_cancelled o.go ≡ b → not (list_any (λ p. is_waiting_to_pass p.phase) ps) ≡ c → (a || (b && c)) ≡ true → Rest (stages_of ps)
  over true b c is_a is_b is_c h = all_released is_a
  over false true true is_a is_b is_c h = all_left is_b is_c
  over false true false is_a is_b is_c h = absurd (cc)
  over false false c is_a is_b is_c h = absurd (cc)

  still_at_end : (b : Bool) → is_over o ps ≡ b → Kept (if b then None else Some o) (stages_of ps)
  still_at_end true is = over _ _ _ refl refl refl is
  still_at_end false is = g

  pub still_kept : Kept (remaining_order o ps) (stages_of ps)
  still_kept = still_at_end (is_over o ps) refl

-- ---- each event keeps it

-- where all have one era, it is the first one's
pub era_at : (ps : List Processor) → Rest (stages_of ps) → (i : ℕ) (x : Stage) → At (stages_of ps) i x → x.1 ≡ common_era ps
era_at [] r i x at = absurd (cc)
era_at (p ∷ ps) r i x at = r.one_era i 0 x (stage_of p) at refl

called : (goal : RegisterFile) (ps : List Processor) → Rest (stages_of ps) → Guarded (record { goal = goal; from_era = common_era ps; go = Pending }) (stages_of ps)
called goal ps r = record {
  first = λ i j x y at_x at_y h. absurd (let z = low i x at_x in omega arith);
  second = λ i j x y at_x at_y h. absurd (let z = low i x at_x in omega arith);
  given = λ i x at h. absurd (let z = low i x at in omega arith);
  in_step = λ i x at _. behind i x at;
  eras = λ i x at. inl (era_at ps r i x at);
}
  where
    behind : (i : ℕ) (x : Stage) → At (stages_of ps) i x → nat_lt (common_era ps) x.1 ≡ false
    behind i x at = let e = era_at ps r i x at in le-ltb (common_era ps) x.1 (omega arith)

    rank_low : (ph : Phase) (b : Bool) → is_running ph ≡ true → b ≡ false → rank_of ph b ≡ 0
    rank_low Running b runs is = ap (rank_of Running) is
    rank_low other b runs is = absurd (cc)

    low : (i : ℕ) (x : Stage) → At (stages_of ps) i x → rank_of x.0 (nat_lt (common_era ps) x.1) ≡ 0
    low i x at = rank_low x.0 _ (r.running i x at) (behind i x at)

guarded_given : (o : Order) (vs : List Stage) → Guarded o vs → Guarded (record o { go = Given }) vs
guarded_given o vs g = record { first = g.first; second = g.second; given = λ i x at h. refl; in_step = g.in_step; eras = g.eras }

guarded_cancelled : (o : Order) (vs : List Stage) → o.go ≡ Pending → Guarded o vs → Guarded (record o { go = Cancelled }) vs
guarded_cancelled o vs pending g = record {
  first = g.first;
  second = g.second;
  given = λ i x at h. absurd (let e : is_given o.go ≡ true = g.given i x at h in let f : is_given o.go ≡ false = ap is_given pending in cc);
  in_step = g.in_step;
  eras = g.eras;
}

pub step_guarded : (o : Order) (e : Event) (k : ℕ) (s : System) (p : Processor) → slice_get s.processors k ≡ Some p → due o s.processors p p.phase ≡ Some e → Guarded o (stages s) → Guarded o (stages (step o.goal e k s))
step_guarded o e k s p at h g =
    let here : At (stages s) k (stage_of p) = stage_at s.processors k p at in
    let move = step_moves o s.processors p (g.eras k (stage_of p) here) p.phase e refl h (g.in_step k (stage_of p) here) in
    subst (Guarded o) (sym (step_stages o.goal e k s p at)) (moved o s.processors k (stage_of p) (stage_of (own_step o.goal e p)) g here move)

keeps_order : (e : MachineEvent) (s : System) (o : Option Order) → IsEnabled (record { system = s; order = o }) e → Invariant (record { system = s; order = o }) → Invariant (next (record { system = s; order = o }) e)
keeps_order (Accesses k op) s o enabled inv = subst (Kept o) (sym (access_stages s k op)) inv
keeps_order (Controls k c) s o enabled inv = subst (Kept o) (sym (control_stages s k c)) inv
keeps_order (Calls goal) s None enabled inv = called goal s.processors inv
keeps_order (Calls goal) s (Some o) enabled inv = absurd (let e = enabled.0 in cc)
keeps_order Goes s None enabled inv = absurd (cc)
keeps_order Goes s (Some o) enabled inv = still_kept (record o { go = Given }) s.processors (guarded_given o _ inv)
keeps_order Cancels s None enabled inv = absurd (cc)
keeps_order Cancels s (Some o) enabled inv = still_kept (record o { go = Cancelled }) s.processors (guarded_cancelled o _ (cc) inv)
keeps_order (Steps k e) s None enabled inv = absurd (cc)
keeps_order (Steps k e) s (Some o) enabled inv = at_processor (slice_get s.processors k) refl enabled
  where
    at_processor : (q : Option Processor) → slice_get s.processors k ≡ q → option_map_or (λ p. due o s.processors p p.phase) q None ≡ Some e → Kept (remaining_order o (step o.goal e k s).processors) (stages (step o.goal e k s))
    at_processor None at h = absurd (cc)
    at_processor (Some p) at h = still_kept o (step o.goal e k s).processors (step_guarded o e k s p at h inv)

pub keeps : (m : Machine) (e : MachineEvent) → IsEnabled m e → Invariant m → Invariant (next m e)
keeps m e enabled inv = keeps_order e m.system m.order enabled inv

pub reached_keeps : {s t : Machine} → Reached s t → Invariant s → Invariant t
reached_keeps at_start inv = inv
reached_keeps (after e r enabled) inv = keeps _ e enabled (reached_keeps r inv)
