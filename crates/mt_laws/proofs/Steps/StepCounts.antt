-- From its take to its release a processor does a fixed number of steps.
use Rattle.std.proofs.Common.{◌≡◌, ◌≢◌, ◌⊎◌, ℕ, zero, suc, ◌+◌, ◌≤◌, List, [], ◌∷◌, ◌++◌, length, set, Some, None, Option, Bool, true, false, refl, sym, ap, ◌∙◌, arith, inl, inr, ⊎_elim, eq-eqb, ne_eqb, lit≤}
use Rattle.std.specs.Prelude.{slice_get, ◌==◌, if◌then◌else◌, cond, not, ◌&&◌}
use Rattle.std.specs.List.{fold, count_by, list_all}
use Rattle.std.specs.Option.{option_map_or}
use Rattle.std.proofs.lemmas.Bool.{eqb-true, eqb-false, ltb-true}
use Rattle.mt_regs.specs.Registers.{writable}
use Rattle.mt_machine.specs.declared.phase.Phase.{Phase}
use Rattle.mt_machine.specs.declared.phase.Phase.TheVariants.{Running, Taken, Arrived, Arrived2}
use Rattle.mt_machine.specs.declared.event.Event.{Event}
use Rattle.mt_machine.specs.declared.event.Event.TheVariants.{Take, Release}
use Rattle.mt_machine.specs.Memory.{Window}
use Rattle.mt_machine.specs.System.{Processor, System, change}
use Rattle.mt_machine.specs.Access.{is_running}
use Rattle.mt_machine.specs.Machine.{Order, MachineEvent, Accesses, Controls, Calls, Goes, Cancels, Steps, IsEnabled, next, due, own_step, before_own, step, is_cancelled, has_released, AreEnabled}
use Rattle.mt_machine.specs.Update.{is_step_of, is_release, dirty_count}
use Rattle.mt_laws.proofs.Barrier.Stages.{Stage, stage_of, stages, access_stages, control_stages}
use Rattle.mt_laws.proofs.Barrier.Ranks.{rank, rank_of, is_ahead, Guarded, processor_at, stage_at, and_left, and_right}
use Rattle.mt_laws.proofs.Clearing.Renewed.{no_take, left_alone}
use Rattle.mt_laws.proofs.Words.MemoryLaws.{AllAligned}
use Rattle.mt_laws.proofs.Words.BusLaws.{fit_at}
use Rattle.mt_laws.proofs.Words.AccessLaws.{changed_at}
use Rattle.mt_laws.proofs.Invariant.Standing.{Standing, standing_next, processor_in}
use Rattle.mt_laws.proofs.Steps.Counts.{first_drop, left, left_of, is_past, Ready, one_less, last_one}

-- ---- counts

fold_from : {X : Type 0} → (f : X → ℕ) (a : ℕ) (xs : List X) → fold (λ a x. a + f x) a xs ≡ a + fold (λ a x. a + f x) 0 xs
fold_from f a [] = omega arith
fold_from f a (x ∷ xs) =
    let b = fold_from f (a + f x) xs in
    let c = fold_from f (0 + f x) xs in
    omega arith

pub count_more : {X : Type 0} → (p : X → Bool) (x : X) (xs : List X) → count_by p (x ∷ xs) ≡ cond (p x) 1 0 + count_by p xs
count_more p x xs = let b = fold_from (λ y. cond (p y) 1 0) (0 + cond (p x) 1 0) xs in omega arith

pub count_append : {X : Type 0} → (p : X → Bool) (xs ys : List X) → count_by p (xs ++ ys) ≡ count_by p xs + count_by p ys
count_append p [] ys = omega arith
count_append p (x ∷ xs) ys =
    let a = count_more p x (xs ++ ys) in
    let b = count_more p x xs in
    let c = count_append p xs ys in
    omega arith

-- ---- phases

not_running : (ph : Phase) → is_past ph ≡ true → is_running ph ≡ false
not_running Running h = absurd (cc)
not_running other h = refl

past_rank : (ph : Phase) (ahead : Bool) → is_past ph ≡ true → 3 ≤ rank_of ph ahead
past_rank Running ahead h = absurd (cc)
past_rank Taken ahead h = absurd (cc)
past_rank Arrived ahead h = absurd (cc)
past_rank Arrived2 ahead h = lit≤ tt
past_rank other ahead h = lit≤ tt

changing_or_again : (ph : Phase) → is_past ph ≡ true → ((ahead : Bool) → rank_of ph ahead ≡ 3) ⊎ (ph ≡ Arrived2)
changing_or_again Running h = absurd (cc)
changing_or_again Taken h = absurd (cc)
changing_or_again Arrived h = absurd (cc)
changing_or_again Arrived2 h = inr refl
changing_or_again other h = inl (λ a. refl)

running_released : (ph : Phase) (ahead : Bool) → is_running ph ≡ true → 2 ≤ rank_of ph ahead → (ahead ≡ true) × (rank_of ph ahead ≡ 5)
running_released Running true runs h = (refl, refl)
running_released Running false runs h = absurd (omega arith)
running_released other ahead runs h = absurd (cc)

due_released : (o : Order) (ps : List Processor) (p : Processor) (ph : Phase) (e : Event) → is_running ph ≡ true → has_released o p ≡ true → due o ps p ph ≡ Some e → ⊥
due_released o ps p Running e runs released h =
    let above = ltb-true o.from_era p.era released in one (p.era == o.from_era) (ne_eqb p.era o.from_era (λ g. absurd (omega arith))) h
  where
    one : (b : Bool) → b ≡ false → (if b && not (is_cancelled o.go) then Some Take else None) ≡ Some e → ⊥
    one true is g = absurd (cc)
    one false is g = absurd (cc)
due_released o ps p other e runs released h = absurd (cc)

get_other : (ps : List Processor) (j k : ℕ) (q : Processor) → k ≢ j → slice_get (set ps j q) k ≡ slice_get ps k
get_other [] j k q apart = refl
get_other (p ∷ ps) zero zero q apart = absurd (apart refl)
get_other (p ∷ ps) zero (suc k) q apart = refl
get_other (p ∷ ps) (suc j) zero q apart = refl
get_other (p ∷ ps) (suc j) (suc k) q apart = get_other ps j k q (λ e. apart (ap suc e))

change_other : (f : Processor → Processor) (j k : ℕ) (s : System) → k ≢ j → slice_get (change f j s).processors k ≡ slice_get s.processors k
change_other f j k s apart = one (slice_get s.processors j)
  where
    one : (o : Option Processor) → slice_get (option_map_or (λ p. record s { processors = set s.processors j (f p) }) o s).processors k ≡ slice_get s.processors k
    one None = refl
    one (Some p) = get_other s.processors j k (f p) apart

runs_there : (ps : List Processor) (k : ℕ) → option_map_or (λ (p : Processor). is_running p.phase) (slice_get ps k) false ≡ true → (p : Processor) × (slice_get ps k ≡ Some p) × (is_running p.phase ≡ true)
runs_there ps k h = one (slice_get ps k) refl h
  where
    one : (o : Option Processor) → slice_get ps k ≡ o → option_map_or (λ (p : Processor). is_running p.phase) o false ≡ true → (p : Processor) × (slice_get ps k ≡ Some p) × (is_running p.phase ≡ true)
    one None is g = absurd (cc)
    one (Some p) is g = (p, is, g)

-- ---- what others do leaves the number of steps that are left

abbrev Same : ℕ → Processor → System → Type 0
Same k p t = (q : Processor) × (slice_get t.processors k ≡ Some q) × (left_of q ≡ left_of p) × (is_past q.phase ≡ true)

module _ (o : Order) (s : System) (k : ℕ) (p : Processor) (at : slice_get s.processors k ≡ Some p) (past : is_past p.phase ≡ true) (g : Guarded o (stages s)) where
  -- one that runs has released
  released : (j : ℕ) (r : Processor) → slice_get s.processors j ≡ Some r → is_running r.phase ≡ true → (has_released o r ≡ true) × (4 ≤ rank o (stage_of p))
  released j r at_r runs =
      let here = stage_at s.processors k p at in
      let there = stage_at s.processors j r at_r in
      let second : 2 ≤ rank o (stage_of r) = g.first k j (stage_of p) (stage_of r) here there (past_rank p.phase (is_ahead o (stage_of p)) past) in
      let w = running_released r.phase (is_ahead o (stage_of r)) runs second in
      (w.0, g.second j k (stage_of r) (stage_of p) there here (let e = w.1 in omega arith))

  by_stages : (t : System) → stages t ≡ stages s → (j : ℕ) (r : Processor) → slice_get s.processors j ≡ Some r → is_running r.phase ≡ true → Same k p t
  by_stages t same j r at_r runs =
      let found = processor_at t.processors k (stage_of p) (ap (λ vs. slice_get vs k) same ∙ stage_at s.processors k p at) in
      let q = found.0 in
      let phase : q.phase ≡ p.phase = ap (λ (x : Stage). x.0) found.2 in
      let again : p.phase ≡ Arrived2 = ⊎_elim (λ (c : (ahead : Bool) → rank_of p.phase ahead ≡ 3). absurd (let three = c (is_ahead o (stage_of p)) in let four = (released j r at_r runs).1 in omega arith)) (λ (c : p.phase ≡ Arrived2). c) (changing_or_again p.phase past) in
      (q, found.1, one q.phase (phase ∙ again) q ∙ sym (one p.phase again p), ap is_past phase ∙ past)
    where
      one : (ph : Phase) → ph ≡ Arrived2 → (q : Processor) → left ph (length (writable q.file)) (dirty_count q.lines) (first_drop q) ≡ 1
      one ph is q = ap (λ v. left v (length (writable q.file)) (dirty_count q.lines) (first_drop q)) is

  other_step : (j : ℕ) (e : Event) → k ≢ j → (x : Option Processor) → slice_get s.processors j ≡ x → option_map_or (λ r. due o s.processors r r.phase) x None ≡ Some e → slice_get (step o.goal e j s).processors k ≡ Some p
  other_step j e apart None is h = absurd (cc)
  other_step j e apart (Some r) is h =
      change_other (own_step o.goal e) j k (before_own e j s) apart ∙ ap (λ ps. slice_get ps k) (left_alone e j s (no_take o s.processors r r.phase e (still_there (is_running r.phase) refl) h)) ∙ at
    where
      still_there : (b : Bool) → is_running r.phase ≡ b → is_running r.phase ≡ false
      still_there false runs = runs
      still_there true runs = absurd (due_released o s.processors r r.phase e runs (released j r is runs).0 h)

  others_leave : (e : MachineEvent) → is_step_of k e ≡ false → IsEnabled (record { system = s; order = Some o }) e → Same k p (next (record { system = s; order = Some o }) e).system
  others_leave (Accesses j op) off enabled = let r = runs_there s.processors j enabled.0 in by_stages (next (record { system = s; order = Some o }) (Accesses j op)).system (access_stages s j op) j r.0 r.1 r.2
  others_leave (Controls j c) off enabled = let r = runs_there s.processors j enabled.0 in by_stages (next (record { system = s; order = Some o }) (Controls j c)).system (control_stages s j c) j r.0 r.1 r.2
  others_leave (Calls goal) off enabled = (p, at, refl, past)
  others_leave Goes off enabled = (p, at, refl, past)
  others_leave Cancels off enabled = (p, at, refl, past)
  others_leave (Steps j e) off enabled = (p, other_step j e (λ g. eqb-false j k off (sym g)) (slice_get s.processors j) refl enabled, refl, past)

-- ---- from the first pass to the release

module _ (ws : List Window) (aligned : AllAligned ws) (k : ℕ) where
  pub ready : (s : System) (o : Order) (p : Processor) → slice_get s.processors k ≡ Some p → Standing ws (record { system = s; order = Some o }) → Ready p
  ready s o p at st = record {
    apart = (fit_at ws s.processors k p st.agrees.stands.fit at).lines_apart;
    in_range = (processor_in ws (record { system = s; order = Some o }) st k p at).in_range;
  }

  own_of : (s : System) (o : Order) (p : Processor) (e : Event) → slice_get s.processors k ≡ Some p → option_map_or (λ q. due o s.processors q q.phase) (slice_get s.processors k) None ≡ Some e → due o s.processors p p.phase ≡ Some e
  own_of s o p e at h = ap (λ (x : Option Processor). option_map_or (λ q. due o s.processors q q.phase) x None) (sym at) ∙ h

  quiet_own : (a b : Bool) → a ≡ true → not (a && b) ≡ true → b ≡ false
  quiet_own true true on h = absurd (cc)
  quiet_own true false on h = refl
  quiet_own false b on h = absurd (cc)

  same_release : (j : ℕ) (w : Event) → is_release (Steps j w) ≡ false → is_release (Steps 0 w) ≡ false
  same_release j Release h = h
  same_release j other h = refl

  own_next : (s : System) (o : Order) (p : Processor) → slice_get s.processors k ≡ Some p → is_past p.phase ≡ true → Standing ws (record { system = s; order = Some o }) → (e : MachineEvent) → is_step_of k e ≡ true → IsEnabled (record { system = s; order = Some o }) e → is_release e ≡ false
      → (q : Processor) × (slice_get (next (record { system = s; order = Some o }) e).system.processors k ≡ Some q) × (left_of q + 1 ≡ left_of p) × (is_past q.phase ≡ true)
  own_next s o p at past st (Accesses j op) on enabled quiet = absurd (cc)
  own_next s o p at past st (Controls j c) on enabled quiet = absurd (cc)
  own_next s o p at past st (Calls goal) on enabled quiet = absurd (cc)
  own_next s o p at past st Goes on enabled quiet = absurd (cc)
  own_next s o p at past st Cancels on enabled quiet = absurd (cc)
  own_next s o p at past st (Steps j w) on enabled quiet =
      let same : j ≡ k = eqb-true j k on in
      let at_j : slice_get s.processors j ≡ Some p = ap (slice_get s.processors) same ∙ at in
      let due_w : due o s.processors p p.phase ≡ Some w = ap (λ (x : Option Processor). option_map_or (λ q. due o s.processors q q.phase) x None) (sym at_j) ∙ enabled in
      let less = one_less o s.processors p (ready s o p at st) p.phase w refl past due_w (same_release j w quiet) in
      let left_as : slice_get (before_own w j s).processors j ≡ Some p = ap (λ ps. slice_get ps j) (left_alone w j s (no_take o s.processors p p.phase w (not_running p.phase past) due_w)) ∙ at_j in (
        own_step o.goal w p,
        ap (slice_get (step o.goal w j s).processors) (sym same) ∙ changed_at (own_step o.goal w) j (before_own w j s) p left_as,
        less.0,
        less.1,
      )

  pub past_count : (rest : List MachineEvent) (s : System) (v : Option Order) (p : Processor) → slice_get s.processors k ≡ Some p → is_past p.phase ≡ true → Standing ws (record { system = s; order = v }) → AreEnabled (record { system = s; order = v }) (rest ++ Steps k Release ∷ [])
      → list_all (λ e. not (is_step_of k e && is_release e)) rest ≡ true → count_by (is_step_of k) (rest ++ Steps k Release ∷ []) ≡ left_of p
  past_count rest s None p at past st enabled quiet =
      absurd (let runs : is_running p.phase ≡ true = st.kept.0.running k (stage_of p) (stage_at s.processors k p at) in let off = not_running p.phase past in cc)
  past_count [] s (Some o) p at past st enabled quiet =
      let a = count_more (is_step_of k) (Steps k Release) [] in
      let own : cond {A = ℕ} (is_step_of k (Steps k Release)) 1 0 ≡ 1 = ap (λ b. cond {A = ℕ} b 1 0) (eq-eqb k k refl) in
      let b = last_one o s.processors p (ready s o p at st) p.phase refl past (own_of s o p Release at enabled.0) in
      omega arith
  past_count (e ∷ rest) s (Some o) p at past st enabled quiet =
      one (is_step_of k e) refl (λ q at_q past_q. past_count rest (next (record { system = s; order = Some o }) e).system (next (record { system = s; order = Some o }) e).order q at_q past_q (standing_next ws aligned (record { system = s; order = Some o }) e enabled.0 st) enabled.1 (and_right (not (is_step_of k e && is_release e)) _ quiet))
    where
      one : (b : Bool) → is_step_of k e ≡ b
          → ((q : Processor) → slice_get (next (record { system = s; order = Some o }) e).system.processors k ≡ Some q → is_past q.phase ≡ true → count_by (is_step_of k) (rest ++ Steps k Release ∷ []) ≡ left_of q)
          → count_by (is_step_of k) (e ∷ rest ++ Steps k Release ∷ []) ≡ left_of p
      one false off rest_of =
          let same = others_leave o s k p at past st.kept.0 e off enabled.0 in
          let a = count_more (is_step_of k) e (rest ++ Steps k Release ∷ []) in
          let none : cond {A = ℕ} (is_step_of k e) 1 0 ≡ 0 = ap (λ b. cond {A = ℕ} b 1 0) off in
          let c = rest_of same.0 same.1 same.3 in
          let d = same.2 in
          omega arith
      one true on rest_of =
          let own = own_next s o p at past st e on enabled.0 (quiet_own (is_step_of k e) (is_release e) on (and_left _ _ quiet)) in
          let a = count_more (is_step_of k) e (rest ++ Steps k Release ∷ []) in
          let some : cond {A = ℕ} (is_step_of k e) 1 0 ≡ 1 = ap (λ b. cond {A = ℕ} b 1 0) on in
          let c = rest_of own.0 own.1 own.3 in
          let d = own.2 in
          omega arith
