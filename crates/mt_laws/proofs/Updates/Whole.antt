-- A whole update ends in the state that is given outright.
use Rattle.std.proofs.Common.{◌≡◌, ◌⊎◌, ℕ, zero, suc, ◌+◌, ◌%◌, ◌≤◌, List, [], ◌∷◌, set, Some, None, Option, Bool, true, false, refl, sym, ap, subst, ◌∙◌, inl, inr, arith, ⊎_elim, lit≤}
use Rattle.std.specs.Prelude.{slice_get, map, if◌then◌else◌, nat_lt, ◌==◌, not, ◌&&◌, ◌||◌}
use Rattle.std.specs.List.{fold, list_all, list_any, filter_map}
use Rattle.std.specs.Option.{option_map_or, option_or}
use Rattle.std.proofs.lemmas.Bool.{lt-ltb, le-ltb, eqb-true}
use Rattle.mt_regs.specs.RegisterFile.{RegisterFile}
use Rattle.mt_tlb.specs.declared.mapping.Mapping.{Mapping}
use Rattle.mt_machine.specs.declared.phase.Phase.{Phase}
use Rattle.mt_machine.specs.declared.phase.Phase.TheVariants.{Running, Taken, Arrived}
use Rattle.mt_machine.specs.declared.event.Event.{Event}
use Rattle.mt_machine.specs.declared.event.Event.TheVariants.{Take, Arrive, Leave, Pass, WriteBack}
use Rattle.mt_machine.specs.declared.go.Go.{Go}
use Rattle.mt_machine.specs.declared.go.Go.TheVariants.{Pending, Given}
use Rattle.mt_machine.specs.Memory.{Window, word_at}
use Rattle.mt_machine.specs.System.{Processor, System, is_tlb_flushed, now, dirty_word, dirty_word_in}
use Rattle.mt_machine.specs.Bus.{drain}
use Rattle.mt_machine.specs.Access.{is_running}
use Rattle.mt_machine.specs.Machine.{Machine, Order, MachineEvent, Accesses, Controls, Calls, Goes, Cancels, Steps, next, due, own_step, before_own, step, is_cancelled, is_waiting_to_pass, has_released, first_barrier_open, common_era, remaining_order, is_over, run, AreEnabled, at_start, after, Reached}
use Rattle.mt_machine.specs.Update.{is_led, is_cancel, taker, takes_of, emptied, settled_processor, updated, addresses}
use Rattle.mt_machine.specs.Start.{IsStart}
use Rattle.mt_laws.specs.Updates.{WholeUpdate}
use Rattle.mt_laws.proofs.Barrier.Stages.{Stage, stage_of, stages}
use Rattle.mt_laws.proofs.Barrier.Ranks.{rank, rank_of, is_ahead, At, Guarded, at_set, processor_at, stage_at, all_at, all_second, and_left, and_right}
use Rattle.mt_laws.proofs.Barrier.Barriers.{step_moves, step_stages, step_guarded}
use Rattle.mt_laws.proofs.Barrier.Claims.{all_get}
use Rattle.mt_laws.proofs.Clearing.Renewed.{is_take, no_take}
use Rattle.mt_laws.proofs.Words.MemoryLaws.{AllAligned}
use Rattle.mt_laws.proofs.Words.BusLaws.{Word}
use Rattle.mt_laws.proofs.Words.Agreement.{Agrees, step_keeps_word}
use Rattle.mt_laws.proofs.Words.Sound.{now_is}
use Rattle.mt_laws.proofs.Invariant.Kept.{agrees, start_aligned}
use Rattle.mt_laws.proofs.Updates.Held.{settled_word}
use Rattle.mt_laws.proofs.Invariant.Standing.{Standing, standing_next, start_standing, stays_sound}
use Rattle.mt_laws.proofs.Updates.Addresses.{words_are}
use Rattle.mt_laws.proofs.Updates.Erased.{erased, erase, drain_erased}
use Rattle.mt_laws.proofs.Updates.Cancelled.{erase_change, takes_more}
use Rattle.mt_laws.proofs.Translations.Views.{drain_views}
use Rattle.mt_laws.proofs.Updates.Fates.{Fate, fate_step, is_caching, is_restored}

-- ---- each processor beside the one that it was

abbrev pub Fates : Order → List Processor → List Processor → Type 0
Fates o [] [] = Unit {0}
Fates o [] (q ∷ qs) = ⊥
Fates o (p ∷ ps) [] = ⊥
Fates o (p ∷ ps) (q ∷ qs) = Fate o p q × Fates o ps qs

fates_set : (o : Order) (ps qs : List Processor) (k : ℕ) (q r : Processor) → slice_get qs k ≡ Some q → ((p : Processor) → Fate o p q → Fate o p r) → Fates o ps qs → Fates o ps (set qs k r)
fates_set o [] [] k q r at f h = absurd (cc)
fates_set o [] (x ∷ qs) k q r at f h = absurd h
fates_set o (p ∷ ps) [] k q r at f h = absurd h
fates_set o (p ∷ ps) (x ∷ qs) zero q r at f h = let e : x ≡ q = cc in (f p (subst (Fate o p) e h.0), h.1)
fates_set o (p ∷ ps) (x ∷ qs) (suc k) q r at f h = (h.0, fates_set o ps qs k q r at f h.1)

-- what a fence leaves of a processor
abbrev pub View : Type 0
View = List Mapping × Bool × ℕ × Bool

abbrev pub view : Processor → View
view p = (p.mappings, p.page_global, p.era, p.self_snoop)

pub view_erased : (ps : List Processor) → map view (map erased ps) ≡ map view ps
view_erased [] = refl
view_erased (p ∷ ps) = ap (λ vs. view p ∷ vs) (view_erased ps)

pub emptied_views : (ks : List ℕ) (s : System) → map view (emptied s ks).processors ≡ map view s.processors
emptied_views [] s = refl
emptied_views (k ∷ ks) s = emptied_views ks (drain k s) ∙ drain_views View view (λ f p. refl) (λ f p. refl) k s

arrived_of : (ph : Phase) (ahead : Bool) → rank_of ph ahead ≡ 2 → ph ≡ Arrived
arrived_of Running true h = absurd (omega arith)
arrived_of Running false h = absurd (omega arith)
arrived_of Taken ahead h = absurd (omega arith)
arrived_of Arrived ahead h = refl
arrived_of other ahead h = absurd (let low : 2 ≤ 2 = lit≤ tt in cc)

-- where all have arrived and none has passed
fates_arrived : (o : Order) (ps qs : List Processor) → map view qs ≡ map view ps → ((i : ℕ) (q : Processor) → slice_get qs i ≡ Some q → (q.phase ≡ Arrived) × (has_released o q ≡ false)) → Fates o ps qs
fates_arrived o [] [] same h = tt
fates_arrived o [] (q ∷ qs) same h = absurd (cc)
fates_arrived o (p ∷ ps) [] same h = absurd (cc)
fates_arrived o (p ∷ ps) (q ∷ qs) same h =
    let own : view q ≡ view p = cc in
    let rest : map view qs ≡ map view ps = cc in
    let at = h 0 q refl in (
      record {
        mappings = ap (λ (v : View). v.0) own;
        plain = λ g. ap (λ (v : View). v.1) own;
        stripped = λ g. absurd (let e = ap is_tlb_flushed at.0 in cc);
        caching = λ g. absurd (let e = ap is_caching at.0 in cc);
        forgotten = λ g. absurd (let e = ap is_restored at.0 in cc);
        era = λ g. ap (λ (v : View). v.2) own;
        self_snoop = ap (λ (v : View). v.3) own;
        settled = λ g. absurd (let e = at.1 in cc);
      },
      fates_arrived o ps qs rest (λ i r there. h (suc i) r there),
    )

fates_settled : (o : Order) (ps qs : List Processor) → list_all (has_released o) qs ≡ true → Fates o ps qs → qs ≡ map (settled_processor o.goal) ps
fates_settled o [] [] all h = refl
fates_settled o [] (q ∷ qs) all h = absurd h
fates_settled o (p ∷ ps) [] all h = absurd h
fates_settled o (p ∷ ps) (q ∷ qs) all h = λ i. h.0.settled (and_left _ _ all) i ∷ fates_settled o ps qs (and_right (has_released o q) _ all) h.1 i

none_held : (goal : RegisterFile) (ps : List Processor) (j : ℕ) (q : Processor) → slice_get (map (settled_processor goal) ps) j ≡ Some q → (q.lines ≡ []) × (q.buffers ≡ [])
none_held goal [] j q at = absurd (cc)
none_held goal (p ∷ ps) zero q at = let e : settled_processor goal p ≡ q = cc in (ap (λ (r : Processor). r.lines) (sym e), ap (λ (r : Processor). r.buffers) (sym e))
none_held goal (p ∷ ps) (suc j) q at = none_held goal ps j q at

-- ---- the words go by lines and memory alone

dirty_erased : (a : ℕ) (ps : List Processor) → dirty_word_in (map erased ps) a ≡ dirty_word_in ps a
dirty_erased a [] = refl
dirty_erased a (p ∷ ps) = ap (λ o. option_or (dirty_word p.lines a) o) (dirty_erased a ps)

pub now_erased : (a : ℕ) (s : System) → now (erase s) a ≡ now s a
now_erased a s = ap (λ o. option_map_or (λ v. v) o (word_at s.memory a)) (dirty_erased a s.processors)

-- ---- how far the update has come

-- none has passed: but for phases it is the drained start
abbrev pub Early : Order → System → System → Type 0
Early o s t = ((i : ℕ) (x : Stage) → At (stages s) i x → 3 ≤ rank o x → ⊥) × (erase s ≡ erase t)

-- none takes any more: what was is known of each processor, and the words are those of the drained start
pub record Past (o : Order) (ps : List Processor) (s t : System) : Type 0 where
  pub on : (i : ℕ) (x : Stage) → At (stages s) i x → 2 ≤ rank o x
  pub fates : Fates o ps s.processors
  pub words : (a : ℕ) → a % 8 ≡ 0 → Word true a (now t a) s

abbrev pub Course : Order → List Processor → System → System → Type 0
Course o ps s t = (map view t.processors ≡ map view ps) × (Early o s t ⊎ Past o ps s t)

pub to_past : (ws : List Window) (o : Order) (ps : List Processor) (s t : System) → Guarded o (stages s) → Agrees ws (record { system = s; order = Some o }) → map view t.processors ≡ map view ps → Early o s t → ((i : ℕ) (x : Stage) → At (stages s) i x → 2 ≤ rank o x) → Past o ps s t
to_past ws o ps s t g agrees views early on = record {
  on = on;
  fates = fates_arrived o ps s.processors same arrived;
  words = λ a whole. let w = agrees.words a whole in
      subst (λ (x : ℕ). Word true a x s) (sym (now_is ws s a w.0 agrees.stands w.1) ∙ sym (now_erased a s) ∙ ap (λ (u : System). now u a) early.1 ∙ now_erased a t) w.1;
}
  where
    same : map view s.processors ≡ map view ps
    same = sym (view_erased s.processors) ∙ ap (λ (u : System). map view u.processors) early.1 ∙ view_erased t.processors ∙ views

    arrived : (i : ℕ) (q : Processor) → slice_get s.processors i ≡ Some q → (q.phase ≡ Arrived) × (has_released o q ≡ false)
    arrived i q at =
        let here = stage_at s.processors i q at in
        let low = early.0 i (stage_of q) here in
        let high = on i (stage_of q) here in
        let phase : q.phase ≡ Arrived = arrived_of q.phase (is_ahead o (stage_of q)) (omega arith) in
        (phase, g.in_step i (stage_of q) here (ap is_running phase))

-- ---- a step

-- where it is no take it changes one processor of the list
step_sets : (goal : RegisterFile) (w : Event) (k : ℕ) (s : System) (p : Processor) → is_take w ≡ false → slice_get s.processors k ≡ Some p → (step goal w k s).processors ≡ set s.processors k (own_step goal w p)
unfolding is_take
step_sets goal Take k s p quiet at = absurd (cc)
step_sets goal (WriteBack a v) k s p quiet at = ap (λ (o : Option Processor). (option_map_or (λ q. record (before_own (WriteBack a v) k s) { processors = set s.processors k (own_step goal (WriteBack a v) q) }) o (before_own (WriteBack a v) k s)).processors) at
step_sets goal other k s p quiet at = ap (λ (o : Option Processor). (option_map_or (λ q. record s { processors = set s.processors k (own_step goal other q) }) o s).processors) at

abbrev pub Standing' : List Window → System → Order → Type 0
Standing' ws s o = Standing ws (record { system = s; order = Some o })

module _ (ws : List Window) (aligned : AllAligned ws) (o : Order) (ps : List Processor) (s : System) (k : ℕ) (p : Processor) (at : slice_get s.processors k ≡ Some p) (off : is_cancelled o.go ≡ false) (st : Standing' ws s o) where
  here : At (stages s) k (stage_of p)
  here = stage_at s.processors k p at

  guarded : Guarded o (stages s)
  guarded = st.kept.0

  -- one that has released has no event
  past_quiet : (ph : Phase) (w : Event) → p.phase ≡ ph → 2 ≤ rank o (ph, p.era) → due o s.processors p ph ≡ Some w → is_running ph ≡ false
  past_quiet Running w same high h = absurd (one (p.era == o.from_era) (is_cancelled o.go) refl h)
    where
      one : (a c : Bool) → (p.era == o.from_era) ≡ a → (if a && not c then Some Take else None) ≡ Some w → ⊥
      one false c is g = absurd (cc)
      one true c is g =
          let era = eqb-true p.era o.from_era is in
          let behind : nat_lt o.from_era p.era ≡ false = le-ltb o.from_era p.era (omega arith) in
          let low : rank o (Running, p.era) ≡ 0 = ap (rank_of Running) behind in
          omega arith
  past_quiet other w same high h = refl

  past_step : (t : System) (w : Event) → due o s.processors p p.phase ≡ Some w → Past o ps s t → (is_take w ≡ false) × Past o ps (step o.goal w k s) t
  past_step t w h past =
      let high : 2 ≤ rank o (stage_of p) = past.on k (stage_of p) here in
      let quiet = past_quiet p.phase w refl high h in
      let no_taking = no_take o s.processors p p.phase w quiet h in
      let behind : has_released o p ≡ false = guarded.in_step k (stage_of p) here quiet in
      let above : nat_lt o.from_era (p.era + 1) ≡ true =
      ⊎_elim (λ (e : p.era ≡ o.from_era). lt-ltb o.from_era (p.era + 1) (omega arith)) (λ (e : p.era ≡ o.from_era + 1). lt-ltb o.from_era (p.era + 1) (omega arith)) (guarded.eras k (stage_of p) here) in
      let move = step_moves o s.processors p (guarded.eras k (stage_of p) here) p.phase w refl h (guarded.in_step k (stage_of p) here) in
      let up : 2 ≤ rank o (stage_of (own_step o.goal w p)) =
      ⊎_elim (λ (u : rank o (stage_of p) ≤ rank o (stage_of (own_step o.goal w p))). omega arith) (λ (u : is_cancelled o.go ≡ true). absurd (cc)) move.up in (
        no_taking,
        record {
          on = λ i x there. ⊎_elim
              (λ (e : (i ≡ k) × (stage_of (own_step o.goal w p) ≡ x)). subst (λ (v : Stage). 2 ≤ rank o v) e.1 up)
              (λ (e : At (stages s) i x). past.on i x e)
              (at_set (stages s) k i (stage_of (own_step o.goal w p)) x (subst (λ (vs : List Stage). At vs i x) (step_stages o.goal w k s p at) there));
          fates = subst (Fates o ps) (sym (step_sets o.goal w k s p no_taking at))
              (fates_set o ps s.processors k p (own_step o.goal w p) at
              (λ q f. fate_step o s.processors q p f (st.kept.1 k p at) (st.filed.1 k p at) behind p.phase w refl quiet above h)
              past.fates);
          words = λ a whole. step_keeps_word ws aligned (record { system = s; order = Some o }) k w (ap (λ (x : Option Processor). option_map_or (λ q. due o s.processors q q.phase) x None) at ∙ h) no_taking st.agrees.stands true a (now t a) whole (past.words a whole);
        },
      )

  -- the drained start after an event
  abbrev after_take : System → Event → System
  after_take t w = fold (λ x j. drain j x) t (filter_map taker (Steps k w ∷ []))

  abbrev Goal : System → Event → Type 0
  Goal t w = Course o ps (step o.goal w k s) (after_take t w)

  past_goal : (t : System) (w : Event) → map view t.processors ≡ map view ps → due o s.processors p p.phase ≡ Some w → Past o ps s t → Goal t w
  unfolding is_take
  past_goal t w views h past = let r = past_step t w h past in one w r.0 r.1
    where
      one : (w : Event) → is_take w ≡ false → Past o ps (step o.goal w k s) t → Goal t w
      one Take quiet done = absurd (cc)
      one other quiet done = (views, inr done)

  low_set : (t : System) (w : Event) → Early o s t → (rank o (stage_of (own_step o.goal w p)) ≤ 2) → (i : ℕ) (x : Stage) → At (stages (step o.goal w k s)) i x → 3 ≤ rank o x → ⊥
  low_set t w early low i x there h =
      ⊎_elim
      (λ (e : (i ≡ k) × (stage_of (own_step o.goal w p) ≡ x)). let l : rank o x ≤ 2 = subst (λ (v : Stage). rank o v ≤ 2) e.1 low in let r : ⊥ = omega arith in r)
      (λ (e : At (stages s) i x). early.0 i x e h)
      (at_set (stages s) k i (stage_of (own_step o.goal w p)) x (subst (λ (vs : List Stage). At vs i x) (step_stages o.goal w k s p at) there))

  early_goal : (t : System) → map view t.processors ≡ map view ps → Early o s t → (ph : Phase) (w : Event) → p.phase ≡ ph → due o s.processors p ph ≡ Some w → Goal t w
  early_goal t views early Running w same h = one (p.era == o.from_era) (is_cancelled o.go) h
    where
      one : (a c : Bool) → (if a && not c then Some Take else None) ≡ Some w → Goal t w
      one false c g = absurd (cc)
      one true true g = absurd (cc)
      one true false g = subst (Goal t) (let e : Take ≡ w = cc in e) (
        drain_views View view (λ f p. refl) (λ f p. refl) k t ∙ views,
        inl (low_set t Take early (lit≤ tt), erase_change (own_step o.goal Take) (λ p. refl) k (drain k s) ∙ sym (drain_erased k s) ∙ ap (drain k) early.1 ∙ drain_erased k t),
      )
  early_goal t views early Taken w same h = one (is_cancelled o.go) off h
    where
      one : (c : Bool) → c ≡ false → Some (if c then Leave else Arrive) ≡ Some w → Goal t w
      one true not_on g = absurd (cc)
      one false not_on g = subst (Goal t) (let e : Arrive ≡ w = cc in e) (views, inl (low_set t Arrive early (lit≤ tt), erase_change (own_step o.goal Arrive) (λ p. refl) k s ∙ early.1))
  early_goal t views early Arrived w same h = one (is_cancelled o.go) (first_barrier_open o s.processors) refl refl h
    where
      one : (c b : Bool) → is_cancelled o.go ≡ c → first_barrier_open o s.processors ≡ b → (if c then Some Leave else (if b then Some Pass else None)) ≡ Some w → Goal t w
      one true b go is g = absurd (cc)
      one false false go is g = absurd (cc)
      one false true go is g =
          past_goal t w views (ap (λ (v : Phase). due o s.processors p v) same ∙ h)
          (to_past ws o ps s t guarded st.agrees views early (all_second o s.processors guarded is))
  early_goal t views early other w same h = absurd (early.0 k (stage_of p) here (subst (λ (v : Phase). 3 ≤ rank o (v, p.era)) (sym same) (lit≤ tt)))

  pub course_step : (t : System) (w : Event) → due o s.processors p p.phase ≡ Some w → Course o ps s t → Goal t w
  course_step t w h course =
      ⊎_elim (λ (early : Early o s t). early_goal t course.0 early p.phase w refl h) (λ (past : Past o ps s t). past_goal t w course.0 h past) course.1

-- ---- the end

abbrev Ends : RegisterFile → List Processor → System → System → Type 0
Ends goal ps s t = (s.processors ≡ map (settled_processor goal) ps) × ((a : ℕ) → a % 8 ≡ 0 → word_at s.memory a ≡ now t a)

pub released_two : (ph : Phase) (ahead : Bool) → (is_running ph ≡ false → ahead ≡ false) → ahead ≡ true → 2 ≤ rank_of ph ahead
released_two Running true in_step h = lit≤ tt
released_two Running false in_step h = absurd (cc)
released_two other true in_step h = absurd (let e : true ≡ false = in_step refl in cc)
released_two other false in_step h = absurd (cc)

finish : (ws : List Window) (o : Order) (ps : List Processor) (s t : System) → Guarded o (stages s) → Agrees ws (record { system = s; order = Some o }) → Course o ps s t → list_all (has_released o) s.processors ≡ true → Ends o.goal ps s t
finish ws o ps s t g agrees course all =
    (processors, λ a whole. (settled_word a (now t a) s (λ j q at. none_held o.goal ps j q (subst (λ (qs : List Processor). slice_get qs j ≡ Some q) processors at)) (past.words a whole)).shows.0)
  where
    on : (i : ℕ) (x : Stage) → At (stages s) i x → 2 ≤ rank o x
    on i x at =
        let found = processor_at s.processors i x at in
        let q = found.0 in
        subst (λ (v : Stage). 2 ≤ rank o v) found.2
        (released_two q.phase (is_ahead o (stage_of q)) (g.in_step i (stage_of q) (stage_at s.processors i q found.1)) (all_at (has_released o) s.processors i q all found.1))

    past : Past o ps s t
    past = ⊎_elim (λ (early : Early o s t). to_past ws o ps s t g agrees course.0 early on) (λ (h : Past o ps s t). h) course.1

    processors : s.processors ≡ map (settled_processor o.goal) ps
    processors = fates_settled o ps s.processors all past.fates

pub over_released : (o : Order) (ps : List Processor) → is_cancelled o.go ≡ false → is_over o ps ≡ true → list_all (has_released o) ps ≡ true
over_released o ps off h = one (list_all (has_released o) ps) (is_cancelled o.go) (not (list_any (λ p. is_waiting_to_pass p.phase) ps)) off h
  where
    one : (a b c : Bool) → b ≡ false → (a || (b && c)) ≡ true → a ≡ true
    one true b c not_on g = refl
    one false true c not_on g = absurd (cc)
    one false false c not_on g = absurd (cc)

-- with no order nothing more is led
pub ended : (es : List MachineEvent) (s : System) → AreEnabled (record { system = s; order = None }) es → list_all (λ e. is_led e && not (is_cancel e)) es ≡ true → es ≡ []
ended [] s enabled led = refl
ended (Accesses k op ∷ es) s enabled led = absurd (cc)
ended (Controls k c ∷ es) s enabled led = absurd (cc)
ended (Calls goal ∷ es) s enabled led = absurd (cc)
ended (Goes ∷ es) s enabled led = absurd (let h = enabled.0 in cc)
ended (Cancels ∷ es) s enabled led = absurd (let h = enabled.0 in cc)
ended (Steps k w ∷ es) s enabled led = absurd (let h = enabled.0 in cc)

fates_go : (o : Order) (go : Go) (ps qs : List Processor) → Fates o ps qs → Fates (record o { go = go }) ps qs
fates_go o go [] [] h = tt
fates_go o go [] (q ∷ qs) h = absurd h
fates_go o go (p ∷ ps) [] h = absurd h
fates_go o go (p ∷ ps) (q ∷ qs) h =
    let f = h.0 in
    (record { mappings = f.mappings; plain = f.plain; stripped = f.stripped; caching = f.caching; forgotten = f.forgotten; era = f.era; self_snoop = f.self_snoop; settled = f.settled }, fates_go o go ps qs h.1)

pub course_go : (o : Order) (go : Go) (ps : List Processor) (s t : System) → Course o ps s t → Course (record o { go = go }) ps s t
course_go o go ps s t course =
    (course.0, ⊎_elim (λ (early : Early o s t). inl early) (λ (past : Past o ps s t). inr (record { on = past.on; fates = fates_go o go ps s.processors past.fates; words = past.words })) course.1)

module _ (ws : List Window) (aligned : AllAligned ws) (ps : List Processor) where
  resume : (es : List MachineEvent) (s : System) (o : Order) (t : System) → list_all (λ e. is_led e && not (is_cancel e)) es ≡ true
      → (list_all (has_released o) s.processors ≡ true → Ends o.goal ps s t) → is_cancelled o.go ≡ false
      → Standing ws (record { system = s; order = remaining_order o s.processors }) → AreEnabled (record { system = s; order = remaining_order o s.processors }) es → (run (record { system = s; order = remaining_order o s.processors }) es).order ≡ None
      → (Standing' ws s o → AreEnabled (record { system = s; order = Some o }) es → (run (record { system = s; order = Some o }) es).order ≡ None → Ends o.goal ps (run (record { system = s; order = Some o }) es).system (emptied t (takes_of es)))
      → Ends o.goal ps (run (record { system = s; order = remaining_order o s.processors }) es).system (emptied t (takes_of es))
  resume es s o t led at_end off st enabled over more = one (is_over o s.processors) refl st enabled over
    where
      one : (b : Bool) → is_over o s.processors ≡ b → Standing ws (record { system = s; order = if b then None else Some o }) → AreEnabled (record { system = s; order = if b then None else Some o }) es → (run (record { system = s; order = if b then None else Some o }) es).order ≡ None
          → Ends o.goal ps (run (record { system = s; order = if b then None else Some o }) es).system (emptied t (takes_of es))
      one true is st' enabled' over' =
          subst (λ (fs : List MachineEvent). Ends o.goal ps (run (record { system = s; order = None }) fs).system (emptied t (takes_of fs))) (sym (ended es s enabled' led)) (at_end (over_released o s.processors off is))
      one false is st' enabled' over' = more st' enabled' over'

  course_run : (es : List MachineEvent) (s : System) (o : Order) (t : System) → is_cancelled o.go ≡ false → Standing' ws s o → Course o ps s t → AreEnabled (record { system = s; order = Some o }) es → list_all (λ e. is_led e && not (is_cancel e)) es ≡ true
      → (run (record { system = s; order = Some o }) es).order ≡ None → Ends o.goal ps (run (record { system = s; order = Some o }) es).system (emptied t (takes_of es))
  course_run [] s o t off st course enabled led over = absurd (cc)
  course_run (Accesses k op ∷ es) s o t off st course enabled led over = absurd (cc)
  course_run (Controls k c ∷ es) s o t off st course enabled led over = absurd (cc)
  course_run (Calls goal ∷ es) s o t off st course enabled led over = absurd (cc)
  course_run (Cancels ∷ es) s o t off st course enabled led over = absurd (cc)
  course_run (Goes ∷ es) s o t off st course enabled led over =
      resume es s (record o { go = Given }) t led (λ all. finish ws o ps s t st.kept.0 st.agrees course all) refl
      (standing_next ws aligned (record { system = s; order = Some o }) Goes enabled.0 st) enabled.1 over
      (λ st' enabled' over'. course_run es s (record o { go = Given }) t refl st' (course_go o Given ps s t course) enabled' led over')
  course_run (Steps k w ∷ es) s o t off st course enabled led over = at_processor (slice_get s.processors k) refl enabled.0 (λ u course' st' enabled' over'. course_run es (step o.goal w k s) o u off st' course' enabled' led over')
    where
      at_processor : (q : Option Processor) → slice_get s.processors k ≡ q → option_map_or (λ p. due o s.processors p p.phase) q None ≡ Some w
          → ((u : System) → Course o ps (step o.goal w k s) u → Standing' ws (step o.goal w k s) o → AreEnabled (record { system = step o.goal w k s; order = Some o }) es → (run (record { system = step o.goal w k s; order = Some o }) es).order ≡ None
          → Ends o.goal ps (run (record { system = step o.goal w k s; order = Some o }) es).system (emptied u (takes_of es)))
          → Ends o.goal ps (run (record { system = s; order = Some o }) (Steps k w ∷ es)).system (emptied t (takes_of (Steps k w ∷ es)))
      at_processor None at h more = absurd (cc)
      at_processor (Some p) at h more =
          let u : System = fold (λ x j. drain j x) t (filter_map taker (Steps k w ∷ [])) in
          let course' : Course o ps (step o.goal w k s) u = course_step ws aligned o ps s k p at off st t w h course in
          let st' = standing_next ws aligned (record { system = s; order = Some o }) (Steps k w) enabled.0 st in
          let agrees' : Agrees ws (record { system = step o.goal w k s; order = Some o }) = record { stands = st'.agrees.stands; words = st'.agrees.words } in
          subst (Ends o.goal ps (run (record { system = s; order = Some o }) (Steps k w ∷ es)).system) (sym (takes_more (Steps k w) es t))
          (resume es (step o.goal w k s) o u led
          (λ all. finish ws o ps (step o.goal w k s) u (step_guarded o w k s p at h st.kept.0) agrees' course' all) off
          st' enabled.1 over (more u course'))

reached_run : {s : Machine} → (es : List MachineEvent) (t : Machine) → Reached s t → AreEnabled t es → Reached s (run t es)
reached_run [] t r enabled = r
reached_run (e ∷ es) t r enabled = reached_run es (next t e) (after e r enabled.0) enabled.1

-- the run of a list that ends an update leads to the state that is given outright
pub outright : (s : Machine) (o : Order) (es : List MachineEvent) (first : Machine) → IsStart s → first ≡ record { system = s.system; order = Some o } → Reached s first → Standing s.system.memory.windows first → is_cancelled o.go ≡ false
    → ((i : ℕ) (x : Stage) → At (stages s.system) i x → 3 ≤ rank o x → ⊥) → AreEnabled first es → list_all (λ e. is_led e && not (is_cancel e)) es ≡ true → (run first es).order ≡ None
    → run first es ≡ updated s.system (takes_of es) o.goal
outright s o es first start is reached st off low enabled led over =
    let ws : List Window = s.system.memory.windows in
    let t : System = emptied s.system (takes_of es) in
    let last : Machine = run first es in
    let known : Machine = record { system = s.system; order = Some o } in
    let ends : Ends o.goal s.system.processors last.system t =
    subst (λ (m : Machine). Ends o.goal s.system.processors (run m es).system t) (sym is)
    (course_run ws (start_aligned s start) s.system.processors es s.system o s.system off (subst (Standing ws) is st) (refl, inl (low, refl))
    (subst (λ (m : Machine). AreEnabled m es) is enabled) led (subst (λ (m : Machine). (run m es).order ≡ None) is over)) in
    let r : Reached s last = reached_run es first reached enabled in
    let memory = (stays_sound s last start r).memory in
    let windows : last.system.memory.windows ≡ ws = (agrees s last start r).stands.memory.windows in
    let words = words_are last.system.memory (now t) memory ends.1 ∙ ap (λ (vs : List Window). map (now t) (addresses vs)) windows in
    λ i. record { system = record { processors = ends.0 i; memory = record { windows = windows i; words = words i } }; order = over i }

pub whole_update : WholeUpdate
whole_update s goal es quiet enabled led over =
    let start : IsStart s = inl quiet in
    let o : Order = record { goal = goal; from_era = common_era s.system.processors; go = Pending } in
    let low : (i : ℕ) (x : Stage) → At (stages s.system) i x → 3 ≤ rank o x → ⊥ = λ i x at h.
    let found = processor_at s.system.processors i x at in
    let zero_rank : rank o (stage_of found.0) ≡ 0 = none_ahead o found.0
    (all_get (λ p. is_running p.phase ≡ true) s.system.processors quiet.running i found.0 found.1)
    (all_get (λ p. p.era ≡ common_era s.system.processors) s.system.processors quiet.one_era i found.0 found.1) in
    let same : rank o (stage_of found.0) ≡ rank o x = ap (rank o) found.2 in
    let r : ⊥ = omega arith in r in
    outright s o es (next s (Calls goal)) start refl (after (Calls goal) at_start enabled.0)
    (standing_next s.system.memory.windows (start_aligned s start) s (Calls goal) enabled.0 (start_standing s start)) refl low enabled.1 led over
  where
    running_rank : (ph : Phase) (ahead : Bool) → is_running ph ≡ true → ahead ≡ false → rank_of ph ahead ≡ 0
    running_rank Running true h g = absurd (cc)
    running_rank Running false h g = refl
    running_rank other ahead h g = absurd (cc)

    none_ahead : (o : Order) (p : Processor) → is_running p.phase ≡ true → p.era ≡ o.from_era → rank o (stage_of p) ≡ 0
    none_ahead o p runs era = running_rank p.phase (nat_lt o.from_era p.era) runs (le-ltb o.from_era p.era (omega arith))
