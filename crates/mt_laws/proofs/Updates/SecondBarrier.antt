-- Where all have arrived again nothing is held, and memory has each word.
use Rattle.std.proofs.Common.{◌≡◌, ◌⊎◌, ℕ, zero, suc, ◌%◌, ◌≤◌, List, [], ◌∷◌, get_or, Some, None, Option, Bool, true, false, refl, sym, ap, subst, ◌∙◌, arith, inl, ⊎_elim, inr}
use Rattle.std.specs.Prelude.{slice_get, map, if◌then◌else◌, not, ◌&&◌, ◌||◌}
use Rattle.std.specs.List.{All, fold, filter_map, list_all}
use Rattle.std.specs.Option.{option_map_or}
use Rattle.std.proofs.lemmas.Option.{slice_get-get_or}
use Rattle.mt_regs.specs.RegisterFile.{RegisterFile}
use Rattle.mt_machine.specs.declared.phase.Phase.{Phase}
use Rattle.mt_machine.specs.declared.phase.Phase.TheVariants.{Running, Taken, Arrived, Arrived2}
use Rattle.mt_machine.specs.declared.go.Go.{Go}
use Rattle.mt_machine.specs.declared.go.Go.TheVariants.{Given}
use Rattle.mt_machine.specs.Memory.{Window, word_at}
use Rattle.mt_machine.specs.System.{Processor, System, now, dirty_word_in}
use Rattle.mt_machine.specs.Bus.{drain}
use Rattle.mt_machine.specs.Machine.{Machine, Order, MachineEvent, Accesses, Controls, Calls, Goes, Cancels, Steps, run, AreEnabled, due, step, is_cancelled, is_given, is_changing, is_arrived_again, is_over, remaining_order, second_barrier_open, has_arrived_again, has_passed, has_released}
use Rattle.mt_machine.specs.Start.{IsStart, IsBroadcast}
use Rattle.mt_machine.specs.Update.{is_led, is_cancel, emptied, taker, takes_of, settled_processor, Led}
use Rattle.mt_laws.specs.Updates.{HoldsNothing, LedToSecondBarrier, LedReleased}
use Rattle.mt_laws.proofs.Barrier.Stages.{Stage, stage_of, stages}
use Rattle.mt_laws.proofs.Barrier.Ranks.{rank, rank_of, is_ahead, At, stage_at, all_fourth, and_left, Guarded}
use Rattle.mt_laws.proofs.Words.MemoryLaws.{AllAligned}
use Rattle.mt_laws.proofs.Updates.Cancelled.{takes_more}
use Rattle.mt_laws.proofs.Invariant.Standing.{Standing, standing_next, start_standing}
use Rattle.mt_laws.proofs.Updates.Fates.{Fate}
use Rattle.mt_laws.proofs.Updates.Whole.{Course, Early, Past, Fates, Standing', course_go, course_step, ended, to_past}
use Rattle.mt_laws.proofs.Updates.Broadcast.{is_known, led_list, broadcast_takes, led_alone, led_not_given}
use Rattle.mt_laws.proofs.Updates.Erased.{erased}
use Rattle.mt_laws.proofs.Invariant.Runs.{led_reached}
use Rattle.mt_laws.proofs.Barrier.Claims.{barriers_hold_of, broadcast_rank, released_rank}
use Rattle.mt_laws.proofs.Updates.Held.{settled_word}
use Rattle.mt_laws.proofs.Invariant.Kept.{start_aligned}
use Rattle.mt_laws.proofs.Clearing.Cleared.{lines_gone, buffers_gone, entries_gone}
use Rattle.mt_laws.proofs.Registers.Filed.{is_done}
use Rattle.mt_laws.specs.Barriers.{IsAt}

-- the course of a list that ends in an order
record OnCourse (ws : List Window) (ps : List Processor) (t : System) (goal : RegisterFile) (last : Order) (m : Machine) : Type 0 where
  stands : Standing' ws m.system last
  course : Course last ps m.system t
  goal_stays : last.goal ≡ goal

module _ (ws : List Window) (aligned : AllAligned ws) (ps : List Processor) (last : Order) where
  resume : (es : List MachineEvent) (s : System) (o : Order) (t : System) → list_all (λ e. is_led e && not (is_cancel e)) es ≡ true
      → Standing ws (record { system = s; order = remaining_order o s.processors }) → AreEnabled (record { system = s; order = remaining_order o s.processors }) es → (run (record { system = s; order = remaining_order o s.processors }) es).order ≡ Some last
      → (Standing' ws s o → AreEnabled (record { system = s; order = Some o }) es → (run (record { system = s; order = Some o }) es).order ≡ Some last → OnCourse ws ps (emptied t (takes_of es)) o.goal last (run (record { system = s; order = Some o }) es))
      → OnCourse ws ps (emptied t (takes_of es)) o.goal last (run (record { system = s; order = remaining_order o s.processors }) es)
  resume es s o t led st enabled over more = one (is_over o s.processors) st enabled over
    where
      one : (b : Bool) → Standing ws (record { system = s; order = if b then None else Some o }) → AreEnabled (record { system = s; order = if b then None else Some o }) es → (run (record { system = s; order = if b then None else Some o }) es).order ≡ Some last
          → OnCourse ws ps (emptied t (takes_of es)) o.goal last (run (record { system = s; order = if b then None else Some o }) es)
      one true st' enabled' over' = absurd (let gone : (run (record { system = s; order = None }) es).order ≡ None = ap (λ (fs : List MachineEvent). (run (record { system = s; order = None }) fs).order) (ended es s enabled' led) in cc)
      one false st' enabled' over' = more st' enabled' over'

  on_course : (es : List MachineEvent) (s : System) (o : Order) (t : System) → is_cancelled o.go ≡ false → Standing' ws s o → Course o ps s t → AreEnabled (record { system = s; order = Some o }) es → list_all (λ e. is_led e && not (is_cancel e)) es ≡ true
      → (run (record { system = s; order = Some o }) es).order ≡ Some last → OnCourse ws ps (emptied t (takes_of es)) o.goal last (run (record { system = s; order = Some o }) es)
  on_course [] s o t off st course enabled led over =
      let same : o ≡ last = cc in
      record { stands = subst (Standing' ws s) same st; course = subst (λ (v : Order). Course v ps s t) same course; goal_stays = ap (λ (v : Order). v.goal) (sym same) }
  on_course (Accesses k op ∷ es) s o t off st course enabled led over = absurd (cc)
  on_course (Controls k c ∷ es) s o t off st course enabled led over = absurd (cc)
  on_course (Calls goal ∷ es) s o t off st course enabled led over = absurd (cc)
  on_course (Cancels ∷ es) s o t off st course enabled led over = absurd (cc)
  on_course (Goes ∷ es) s o t off st course enabled led over =
      resume es s (record o { go = Given }) t led (standing_next ws aligned (record { system = s; order = Some o }) Goes enabled.0 st) enabled.1 over
      (λ st' enabled' over'. on_course es s (record o { go = Given }) t refl st' (course_go o Given ps s t course) enabled' led over')
  on_course (Steps k w ∷ es) s o t off st course enabled led over =
      at_processor (slice_get s.processors k) refl enabled.0
      (λ u course' st' enabled' over'. on_course es (step o.goal w k s) o u off st' course' enabled' led over')
    where
      at_processor : (q : Option Processor) → slice_get s.processors k ≡ q → option_map_or (λ p. due o s.processors p p.phase) q None ≡ Some w
          → ((u : System) → Course o ps (step o.goal w k s) u → Standing' ws (step o.goal w k s) o → AreEnabled (record { system = step o.goal w k s; order = Some o }) es → (run (record { system = step o.goal w k s; order = Some o }) es).order ≡ Some last
          → OnCourse ws ps (emptied u (takes_of es)) o.goal last (run (record { system = step o.goal w k s; order = Some o }) es))
          → OnCourse ws ps (emptied t (takes_of (Steps k w ∷ es))) o.goal last (run (record { system = s; order = Some o }) (Steps k w ∷ es))
      at_processor None at h more = absurd (cc)
      at_processor (Some p) at h more =
          let u : System = fold (λ x j. drain j x) t (filter_map taker (Steps k w ∷ [])) in
          let course' : Course o ps (step o.goal w k s) u = course_step ws aligned o ps s k p at off st t w h course in
          subst (λ (x : System). OnCourse ws ps x o.goal last (run (record { system = s; order = Some o }) (Steps k w ∷ es))) (sym (takes_more (Steps k w) es t))
          (resume es (step o.goal w k s) o u led (standing_next ws aligned (record { system = s; order = Some o }) (Steps k w) enabled.0 st) enabled.1 over (more u course'))

-- ---- at the second barrier

fates_at : (o : Order) (ps qs : List Processor) (j : ℕ) (q : Processor) → Fates o ps qs → slice_get qs j ≡ Some q → (p : Processor) × (slice_get ps j ≡ Some p) × Fate o p q
fates_at o [] [] j q h at = absurd (cc)
fates_at o [] (r ∷ qs) j q h at = absurd h
fates_at o (p ∷ ps) [] j q h at = absurd h
fates_at o (p ∷ ps) (r ∷ qs) zero q h at = let e : r ≡ q = cc in (p, refl, subst (Fate o p) e h.0)
fates_at o (p ∷ ps) (r ∷ qs) (suc j) q h at = fates_at o ps qs j q h.1 at

-- a processor there has arrived again or released
there_of : (ph : Phase) (ahead : Bool) → 4 ≤ rank_of ph ahead → (ph ≡ Arrived2) ⊎ (ahead ≡ true)
there_of Running true h = inr refl
there_of Running false h = absurd (omega arith)
there_of Taken ahead h = absurd (omega arith)
there_of Arrived ahead h = absurd (omega arith)
there_of Arrived2 ahead h = inl refl
there_of other ahead h = absurd (omega arith)

module _ (ws : List Window) (ps : List Processor) (s t : System) (o : Order) (st : Standing' ws s o) (course : Course o ps s t) (high : (i : ℕ) (x : Stage) → At (stages s) i x → 4 ≤ rank o x) where
  past : Past o ps s t
  past = ⊎_elim (λ (early : Early o s t). to_past ws o ps s t st.kept.0 st.agrees course.0 early (λ i x at. let h = high i x at in omega arith)) (λ (h : Past o ps s t). h) course.1

  holds_nothing : (i : ℕ) (q : Processor) → slice_get s.processors i ≡ Some q → HoldsNothing o.goal q
  holds_nothing i q at =
      ⊎_elim
      (λ (c : q.phase ≡ Arrived2).
      let clear = st.kept.1 i q at in
      record {
        file = (st.filed.1 i q at).done (ap is_done c);
        lines = clear.no_lines (ap lines_gone c);
        buffers = clear.no_buffers (ap buffers_gone c);
        entries = clear.no_entries (ap entries_gone c);
      })
      (λ (c : is_ahead o (stage_of q) ≡ true).
      let f = fates_at o ps s.processors i q past.fates at in
      let same : q ≡ settled_processor o.goal f.0 = f.2.settled c in
      subst (HoldsNothing o.goal) (sym same) (record { file = refl; lines = refl; buffers = refl; entries = refl }))
      (there_of q.phase (is_ahead o (stage_of q)) (high i (stage_of q) (stage_at s.processors i q at)))

  released_is : (i : ℕ) (p q : Processor) → slice_get ps i ≡ Some p → slice_get s.processors i ≡ Some q → has_released o q ≡ true → q ≡ settled_processor o.goal p
  released_is i p q at_p at released =
      let f = fates_at o ps s.processors i q past.fates at in
      let same : Some f.0 ≡ Some p = sym f.1 ∙ at_p in
      let e : f.0 ≡ p = cc in
      f.2.settled released ∙ ap (settled_processor o.goal) e

  words_stand : (a : ℕ) → a % 8 ≡ 0 → word_at s.memory a ≡ now t a
  words_stand a whole = (settled_word a (now t a) s (λ i q at. let h = holds_nothing i q at in (h.lines, h.buffers)) (past.words a whole)).shows.0

-- what is led to while the go is given, from a broadcast state
module _ (s m : Machine) (o last : Order) (b : IsBroadcast s o) (l : Led s m) (is : m.order ≡ Some last) (go : last.go ≡ Given) where
  course_list : (es : List MachineEvent) × AreEnabled s es × (run s es ≡ m) × (list_all (λ e. is_led e && not (is_cancel e)) es ≡ true)
  course_list = led_list l last is (ap is_cancelled go)

  drained : System
  drained = emptied s.system (takes_of course_list.0)

  nothing_drained : drained ≡ s.system
  unfolding drained
  nothing_drained = ap (emptied s.system) (broadcast_takes s o b course_list.0 course_list.1 (led_alone (λ e. not (is_cancel e)) course_list.0 course_list.3))

  on_m : OnCourse s.system.memory.windows s.system.processors drained o.goal last m
  unfolding drained
  on_m =
      let start : IsStart s = inr (o, b) in
      let ws : List Window = s.system.memory.windows in
      let known = is_known s o b in
      let first : Machine = record { system = s.system; order = Some o } in
      let es : List MachineEvent = course_list.0 in
      let same : run first es ≡ m = ap (λ (x : Machine). run x es) (sym known) ∙ course_list.2 in
      subst (OnCourse ws s.system.processors (emptied s.system (takes_of es)) o.goal last) same
      (on_course ws (start_aligned s start) s.system.processors last es s.system o s.system (ap is_cancelled b.pending) (subst (Standing ws) known (start_standing s start))
      (refl, inl ((λ i x at h. let r = broadcast_rank s o b i x at in let no_rank : ⊥ = omega arith in no_rank), refl))
      (subst (λ (x : Machine). AreEnabled x es) known course_list.1) course_list.3 (ap (λ (x : Machine). x.order) same ∙ is))

  guard : Guarded last (stages m.system)
  guard = on_m.stands.kept.0

  open_high : second_barrier_open last m.system.processors ≡ true → (i : ℕ) (x : Stage) → At (stages m.system) i x → 4 ≤ rank last x
  open_high opened i x at = all_fourth last m.system.processors guard opened i x at

  second : second_barrier_open last m.system.processors ≡ true → All (HoldsNothing o.goal) m.system.processors × ((a : ℕ) → a % 8 ≡ 0 → word_at m.system.memory a ≡ now s.system a)
  second opened =
      let ws : List Window = s.system.memory.windows in
      let ps : List Processor = s.system.processors in (
        subst (λ (f : RegisterFile). All (HoldsNothing f) m.system.processors) on_m.goal_stays
            (λ k d within. holds_nothing ws ps m.system drained last on_m.stands on_m.course (open_high opened) k (get_or m.system.processors k d) (slice_get-get_or m.system.processors k d within)),
        λ a whole. words_stand ws ps m.system drained last on_m.stands on_m.course (open_high opened) a whole ∙ ap (λ (x : System). now x a) nothing_drained,
      )

  released : (k : ℕ) (p q : Processor) → IsAt s k p → IsAt m k q → has_released last q ≡ true → q ≡ settled_processor o.goal p
  released k p q at_p at_q ahead =
      let here = stage_at m.system.processors k q at_q in
      let top : 5 ≤ rank last (stage_of q) = released_rank q.phase (is_ahead last (stage_of q)) (guard.in_step k (stage_of q) here) ahead in
      subst (λ (f : RegisterFile). q ≡ settled_processor f p) on_m.goal_stays
      (released_is s.system.memory.windows s.system.processors m.system drained last on_m.stands on_m.course (λ i x at. guard.second k i (stage_of q) x here at top) k p q at_p at_q ahead)

-- the go was given, where one has passed
module _ (s m : Machine) (o last : Order) (b : IsBroadcast s o) (l : Led s m) (is : m.order ≡ Some last) where
  go_was_given : (k : ℕ) (q : Processor) → IsAt m k q → has_passed last q ≡ true → last.go ≡ Given
  go_was_given k q at passed = (barriers_hold_of s m (inr (o, b)) (led_reached l)).given last k q is at passed

  passed_if_again : (q : Processor) → has_arrived_again last q ≡ true → has_passed last q ≡ true
  passed_if_again q h = one (is_changing q.phase) (is_arrived_again q.phase) (has_released last q) h
    where
      one : (x y z : Bool) → (y || z) ≡ true → (x || y || z) ≡ true
      one true y z g = refl
      one false y z g = g

  passed_if_released : (q : Processor) → has_released last q ≡ true → has_passed last q ≡ true
  passed_if_released q h = passed_if_again q (one (is_arrived_again q.phase) (has_released last q) h)
    where
      one : (x y : Bool) → y ≡ true → (x || y) ≡ true
      one true y g = refl
      one false y g = g

  abbrev AtSecond : Type 0
  AtSecond = All (HoldsNothing o.goal) m.system.processors × ((a : ℕ) → a % 8 ≡ 0 → word_at m.system.memory a ≡ now s.system a)

  -- a system without processors
  none_there : m.system.processors ≡ [] → AtSecond
  none_there none = (
    subst (All (HoldsNothing o.goal)) (sym none) (λ k d within. absurd (omega arith)),
    λ a whole. by_go last.go refl a whole,
  )
    where
      no_more : (ps : List Processor) → [] ≡ map erased ps → ps ≡ []
      no_more [] h = refl
      no_more (p ∷ ps) h = absurd (cc)

      by_go : (go : Go) → last.go ≡ go → (a : ℕ) → a % 8 ≡ 0 → word_at m.system.memory a ≡ now s.system a
      by_go Given go a whole = (second s m o last b l is go (ap (second_barrier_open last) none)).1 a whole
      by_go other go a whole =
          let same = led_not_given s m o last b l is (ap is_given go) in
          let empty : s.system.processors ≡ [] = no_more s.system.processors (ap (map erased) (sym none) ∙ ap (λ (x : System). x.processors) same) in
          ap (λ (x : System). word_at x.memory a) same
          ∙ ap (λ (ps : List Processor). option_map_or (λ v. v) (dirty_word_in ps a) (word_at s.system.memory a)) (sym empty)

  at_second : second_barrier_open last m.system.processors ≡ true → AtSecond
  at_second opened = one m.system.processors refl
    where
      one : (ps : List Processor) → m.system.processors ≡ ps → AtSecond
      one [] none = none_there none
      one (q ∷ qs) some =
          let again : has_arrived_again last q ≡ true = and_left _ _ (ap (second_barrier_open last) (sym some) ∙ opened) in
          let at : IsAt m 0 q = ap (λ (ps : List Processor). slice_get ps 0) some in
          second s m o last b l is (go_was_given 0 q at (passed_if_again q again)) opened

pub led_to_second_barrier : LedToSecondBarrier
led_to_second_barrier s m o last b l is opened = at_second s m o last b l is opened

pub led_released : LedReleased
led_released s m o last k p q b l is at_p at_q ahead =
    released s m o last b l is (go_was_given s m o last b l is k q at_q (passed_if_released s m o last b l is q ahead)) k p q at_p at_q ahead
