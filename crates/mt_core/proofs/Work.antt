-- What is left to do of an update, as a number: each event that is due lowers it.
use Rattle.std.proofs.Common.{◌≡◌, ◌≢◌, ◌∙◌, ap, sym, refl, subst, arith, ℕ, zero, suc, ◌+◌, ◌*◌, ◌<◌, ◌≤◌, ⊎_elim, ◌⊎◌, Bool, true, false, List, [], ◌∷◌, length, Option, None, Some, slice_get, lit≤}
use Rattle.std.specs.Prelude.{if◌then◌else◌, nat_lt, not, ◌&&◌, ◌==◌}
use Rattle.std.specs.Option.{option_map_or}
use Rattle.std.specs.List.{count_by}
use Rattle.std.proofs.lemmas.Bool.{eqb-true, le-ltb, lt-ltb}
use Rattle.std.proofs.lemmas.List.Sums.{count_by-le-length}
use Rattle.std.proofs.lemmas.Option.{slice_get_within}
use Rattle.mt_regs.specs.RegisterFile.{RegisterFile}
use Rattle.mt_regs.specs.Registers.{writable}
use Rattle.mt_cache.specs.declared.line.CacheLine.{CacheLine}
use Rattle.mt_cache.specs.Lines.{eight, is_dirty}
use Rattle.mt_machine.specs.declared.phase.Phase.{Phase}
use Rattle.mt_machine.specs.declared.phase.Phase.TheVariants.{Running, Taken, Arrived, Arrived2}
use Rattle.mt_machine.specs.declared.event.Event.{Event}
use Rattle.mt_machine.specs.declared.event.Event.TheVariants.{Arrive, Leave, Pass, Release, Take}
use Rattle.mt_machine.specs.System.{Processor, System}
use Rattle.mt_machine.specs.Machine.{Machine, Order, Steps, before_own, due, due_at, first_barrier_open, has_released, is_cancelled, is_over, next, own_step, step}
use Rattle.mt_machine.specs.Update.{dirty_count, is_release}
use Rattle.mt_laws.proofs.Barrier.Ranks.{Guarded, rank, rank_of, stage_at}
use Rattle.mt_laws.proofs.Barrier.Stages.{stage_of, stages}
use Rattle.mt_laws.proofs.Clearing.Follows.{follows_drain}
use Rattle.mt_laws.proofs.Clearing.Renewed.{at_change, is_take, left_alone, no_take}
use Rattle.mt_laws.proofs.Invariant.Standing.{Standing}
use Rattle.mt_laws.proofs.Steps.Counts.{Ready, is_past, last_one, left, left_of, one_less, first_drop}
use Rattle.mt_laws.proofs.Steps.StepCounts.{ready}
use Rattle.mt_laws.proofs.Words.BusLaws.{fit_at}
use Rattle.mt_laws.proofs.Words.Sound.{aligned_all}
use Rattle.mt_core.specs.Arises.{Arises}
use Rattle.mt_core.proofs.Arising.{machine, step_length}
use Rattle.mt_bus.proofs.Changed.{processor_of}
use Rattle.mt_bus.proofs.Stepping.{taken}
use Rattle.mt_core.proofs.Stepping.{stands}

-- no processor has more to do once it has passed the first barrier: its registers, the words of 64 lines, and ten events more
abbrev full : Order → ℕ
full o = length (writable o.goal) + 522

-- what is left in a phase, where the update is cancelled or the processor has released, and where so much is left from the first barrier on
abbrev work_in : Phase → Bool → Bool → ℕ → ℕ → ℕ
work_in Running true released most own = 0
work_in Running false true most own = 0
work_in Running false false most own = most + 3
work_in Taken cancelled released most own = most + 2
work_in Arrived cancelled released most own = most + 1
work_in other cancelled released most own = own

abbrev work : Order → Processor → ℕ
work o p = work_in p.phase (is_cancelled o.go) (has_released o p) (full o) (left_of p)

abbrev total : Order → List Processor → ℕ
total o [] = 0
total o (p ∷ ps) = work o p + total o ps

abbrev pub work_of : Machine → ℕ
work_of m = option_map_or (λ o. total o m.system.processors) m.order 0

-- ---- sums

abbrev AtMost : Order → List Processor → List Processor → Type 0
AtMost o ps qs = (i : ℕ) (p q : Processor) → slice_get ps i ≡ Some p → slice_get qs i ≡ Some q → work o q ≤ work o p

at_most : (o : Order) (ps qs : List Processor) → length qs ≡ length ps → AtMost o ps qs → total o qs ≤ total o ps
at_most o [] [] same h = omega arith
at_most o [] (q ∷ qs) same h = absurd (omega arith)
at_most o (p ∷ ps) [] same h = absurd (omega arith)
at_most o (p ∷ ps) (q ∷ qs) same h =
    let first = h 0 p q refl refl in
    let rest = at_most o ps qs (omega arith) (λ i x y at_x at_y. h (suc i) x y at_x at_y) in
    omega arith

less : (o : Order) (ps qs : List Processor) (k : ℕ) (p q : Processor) → length qs ≡ length ps → AtMost o ps qs → slice_get ps k ≡ Some p → slice_get qs k ≡ Some q → work o q < work o p → total o qs < total o ps
less o [] qs k p q same h at_p at_q low = absurd (cc)
less o (x ∷ ps) [] k p q same h at_p at_q low = absurd (cc)
less o (x ∷ ps) (y ∷ qs) zero p q same h at_p at_q low =
    let is_p : x ≡ p = cc in
    let is_q : y ≡ q = cc in
    let own : work o y < work o x = subst (λ (v : Processor). work o v < work o x) (sym is_q) (subst (λ (v : Processor). work o q < work o v) (sym is_p) low) in
    let rest = at_most o ps qs (omega arith) (λ i v w at_v at_w. h (suc i) v w at_v at_w) in
    omega arith
less o (x ∷ ps) (y ∷ qs) (suc k) p q same h at_p at_q low =
    let first = h 0 x y refl refl in
    let rest = less o ps qs k p q (omega arith) (λ i v w at_v at_w. h (suc i) v w at_v at_w) at_p at_q low in
    omega arith

-- ---- how much there can be

few_words : (ls : List CacheLine) → dirty_count ls ≤ 8 * length ls
few_words [] = omega arith
few_words (l ∷ ls) =
    let one : count_by (is_dirty l) eight ≤ 8 = count_by-le-length (is_dirty l) eight in
    let rest = few_words ls in
    omega arith

few_drops : (p : Processor) → first_drop p ≤ 1
few_drops p = one p.self_snoop
  where
    one : (b : Bool) → (if b then 0 else 1) ≤ 1
    one true = omega arith
    one false = omega arith

same_count : (f g : RegisterFile) → f.capabilities ≡ g.capabilities → length (writable f) ≡ length (writable g)
same_count f g same = ap (λ (c : ℕ). length (writable (record f { capabilities = c }))) same

-- ---- the processor's own step

pub release_is : (e : Event) → is_release (Steps 0 e) ≡ true → e ≡ Release
release_is Release h = refl
release_is other h = absurd (cc)

past_work : (ph : Phase) (cancelled released : Bool) (most own : ℕ) → is_past ph ≡ true → work_in ph cancelled released most own ≡ own
past_work Running c r most own h = absurd (cc)
past_work Taken c r most own h = absurd (cc)
past_work Arrived c r most own h = absurd (cc)
past_work other c r most own h = refl

released_work : (cancelled : Bool) (most own : ℕ) → work_in Running cancelled true most own ≡ 0
released_work true most own = refl
released_work false most own = refl

module _ (o : Order) (ps : List Processor) (p : Processor) (prepared : Ready p) (eras : (p.era ≡ o.from_era) ⊎ (p.era ≡ o.from_era + 1)) (most : length (writable p.file) + dirty_count p.lines + 10 ≤ full o) where
  abbrev Falls : Phase → Event → Type 0
  Falls ph e = work o (own_step o.goal e p) < work_in ph (is_cancelled o.go) (has_released o p) (full o) (left_of p)

  takes : (same cancelled released : Bool) (e : Event) → (p.era == o.from_era) ≡ same → is_cancelled o.go ≡ cancelled → has_released o p ≡ released → (if same && not cancelled then Some Take else None) ≡ Some e
      → work o (own_step o.goal e p) < work_in Running cancelled released (full o) (left_of p)
  takes false cancelled released e is go r h = absurd (cc)
  takes true true released e is go r h = absurd (cc)
  takes true false true e is go r h =
      absurd (let same = eqb-true p.era o.from_era is in let behind : nat_lt o.from_era p.era ≡ false = le-ltb o.from_era p.era (omega arith) in cc)
  takes true false false e is go r h =
      let take : Take ≡ e = cc in
      subst (λ (v : Event). work o (own_step o.goal v p) < full o + 3) take (omega arith)

  from_taken : (cancelled : Bool) (e : Event) → is_cancelled o.go ≡ cancelled → Some (if cancelled then Leave else Arrive) ≡ Some e → work o (own_step o.goal e p) < full o + 2
  from_taken true e go h =
      let leave : Leave ≡ e = cc in
      let none : work o (own_step o.goal Leave p) ≡ 0 = ap (λ (c : Bool). work_in Running c (has_released o p) (full o) (left Running (length (writable p.file)) (dirty_count p.lines) (first_drop p))) go in
      subst (λ (v : Event). work o (own_step o.goal v p) < full o + 2) leave (omega arith)
  from_taken false e go h =
      let arrive : Arrive ≡ e = cc in
      subst (λ (v : Event). work o (own_step o.goal v p) < full o + 2) arrive (omega arith)

  from_arrived : (cancelled opened : Bool) (e : Event) → is_cancelled o.go ≡ cancelled → (if cancelled then Some Leave else (if opened then Some Pass else None)) ≡ Some e → work o (own_step o.goal e p) < full o + 1
  from_arrived true opened e go h =
      let leave : Leave ≡ e = cc in
      let none : work o (own_step o.goal Leave p) ≡ 0 = ap (λ (c : Bool). work_in Running c (has_released o p) (full o) (left Running (length (writable p.file)) (dirty_count p.lines) (first_drop p))) go in
      subst (λ (v : Event). work o (own_step o.goal v p) < full o + 1) leave (omega arith)
  from_arrived false false e go h = absurd (cc)
  from_arrived false true e go h =
      let pass : Pass ≡ e = cc in
      subst (λ (v : Event). work o (own_step o.goal v p) < full o + 1) pass (omega (arith, most, few_drops p))

  from_past : (ph : Phase) (e : Event) → p.phase ≡ ph → is_past ph ≡ true → due o ps p ph ≡ Some e → work o (own_step o.goal e p) < left_of p
  from_past ph e same past h = one (is_release (Steps 0 e)) refl
    where
      one : (b : Bool) → is_release (Steps 0 e) ≡ b → work o (own_step o.goal e p) < left_of p
      one true is =
          let release : e ≡ Release = release_is e is in
          let last = last_one o ps p prepared ph same past (h ∙ ap Some release) in
          let above : nat_lt o.from_era (p.era + 1) ≡ true = lt-ltb o.from_era (p.era + 1) (⊎_elim (λ (g : p.era ≡ o.from_era). omega arith) (λ (g : p.era ≡ o.from_era + 1). omega arith) eras) in
          let none : work o (own_step o.goal Release p) ≡ 0 =
          ap (λ (r : Bool). work_in Running (is_cancelled o.go) r (full o) (left Running (length (writable p.file)) (dirty_count p.lines) (first_drop p))) above
          ∙ released_work (is_cancelled o.go) (full o) (left Running (length (writable p.file)) (dirty_count p.lines) (first_drop p)) in
          subst (λ (v : Event). work o (own_step o.goal v p) < left_of p) (sym release) (omega arith)
      one false is =
          let falls = one_less o ps p prepared ph e same past h is in
          let q : Processor = own_step o.goal e p in
          let own : work o q ≡ left_of q = past_work q.phase (is_cancelled o.go) (has_released o q) (full o) (left_of q) falls.1 in
          let count = falls.0 in
          omega arith

  falls_in : (ph : Phase) (e : Event) → p.phase ≡ ph → due o ps p ph ≡ Some e → Falls ph e
  falls_in Running e same h = takes (p.era == o.from_era) (is_cancelled o.go) (has_released o p) e refl refl refl h
  falls_in Taken e same h = from_taken (is_cancelled o.go) e refl h
  falls_in Arrived e same h = from_arrived (is_cancelled o.go) (first_barrier_open o ps) e refl h
  falls_in other e same h = from_past other e same refl h

  own_falls : (e : Event) → due o ps p p.phase ≡ Some e → work o (own_step o.goal e p) < work o p
  own_falls e h = falls_in p.phase e refl h

-- ---- the others

-- before the first barrier what is left depends on the phase and the era alone
waiting_work : (ph : Phase) (cancelled released : Bool) (most a b : ℕ) → (3 ≤ rank_of ph released → ⊥) → work_in ph cancelled released most a ≡ work_in ph cancelled released most b
waiting_work Running true released most a b low = refl
waiting_work Running false true most a b low = refl
waiting_work Running false false most a b low = refl
waiting_work Taken cancelled released most a b low = refl
waiting_work Arrived cancelled released most a b low = refl
waiting_work Arrived2 cancelled released most a b low = absurd (low (lit≤ tt))
waiting_work other cancelled released most a b low = absurd (low (lit≤ tt))

taker_rank : (o : Order) (ps : List Processor) (p : Processor) (ph : Phase) → due o ps p ph ≡ Some Take → rank_of ph (has_released o p) ≡ 0
taker_rank o ps p Running h = one (p.era == o.from_era) (is_cancelled o.go) refl h
  where
    one : (same cancelled : Bool) → (p.era == o.from_era) ≡ same → (if same && not cancelled then Some Take else None) ≡ Some Take → rank_of Running (has_released o p) ≡ 0
    one false cancelled is g = absurd (cc)
    one true true is g = absurd (cc)
    one true false is g = let same = eqb-true p.era o.from_era is in ap (rank_of Running) (le-ltb o.from_era p.era (omega arith))
taker_rank o ps p other h = absurd (let b : is_take Take ≡ false = no_take o ps p other Take refl h in let a : is_take Take ≡ true = taken in cc)

take_only : (e : Event) → is_take e ≡ true → e ≡ Take
unfolding is_take
take_only Take h = refl
take_only other h = absurd (cc)

same_at : (ps : List Processor) (i : ℕ) (x y : Processor) → slice_get ps i ≡ Some x → slice_get ps i ≡ Some y → x ≡ y
same_at ps i x y at_x at_y = let e : Some x ≡ Some y = sym at_x ∙ at_y in cc

same_stage_work : (o : Order) (x q : Processor) → q.phase ≡ x.phase → q.era ≡ x.era → (3 ≤ rank o (stage_of x) → ⊥) → work o q ≡ work o x
same_stage_work o x q phase era low =
    ap (λ (ph : Phase). work_in ph (is_cancelled o.go) (nat_lt o.from_era q.era) (full o) (left_of q)) phase
    ∙ ap (λ (n : ℕ). work_in x.phase (is_cancelled o.go) (nat_lt o.from_era n) (full o) (left_of q)) era
    ∙ waiting_work x.phase (is_cancelled o.go) (has_released o x) (full o) (left_of q) (left_of x) low

module _ (s : System) (o : Order) (a : Arises (machine s (Some o))) (k : ℕ) (p : Processor) (at : slice_get s.processors k ≡ Some p) where
  abbrev st : Standing s.memory.windows (machine s (Some o))
  st = (stands a).1

  guarded : Guarded o (stages s)
  guarded = st.kept.0

  room : length (writable p.file) + dirty_count p.lines + 10 ≤ full o
  room =
      let registers = same_count p.file o.goal (st.filed.1 k p at).alike.capabilities in
      let words = few_words p.lines in
      let lines = (fit_at s.memory.windows s.processors k p st.agrees.stands.fit at).few_lines in
      omega arith

  own_less : (e : Event) → due o s.processors p p.phase ≡ Some e → work o (own_step o.goal e p) < work o p
  own_less e h =
      own_falls o s.processors p (ready s.memory.windows (aligned_all s.memory.windows (stands a).0.aligned) k s o p at st)
      (guarded.eras k (stage_of p) (stage_at s.processors k p at)) room e h

  abbrev after : Event → List Processor
  after e = (step o.goal e k s).processors

  -- of one that takes: none is past the first barrier
  all_wait : due o s.processors p p.phase ≡ Some Take → (i : ℕ) (x : Processor) → slice_get s.processors i ≡ Some x → 3 ≤ rank o (stage_of x) → ⊥
  all_wait h i x at_x high =
      let second : 2 ≤ rank o (stage_of p) = guarded.first i k (stage_of x) (stage_of p) (stage_at s.processors i x at_x) (stage_at s.processors k p at) high in
      let none = taker_rank o s.processors p p.phase h in
      omega arith

  abbrev Compared : Event → ℕ → Processor → Processor → Type 0
  Compared e i x q = (work o q ≤ work o x) × (i ≡ k → work o q < work o x)

  taking : due o s.processors p p.phase ≡ Some Take → (i : ℕ) (x q : Processor) → slice_get s.processors i ≡ Some x → slice_get (after Take) i ≡ Some q → Compared Take i x q
  taking h i x q at_x at_q =
      ⊎_elim
      (λ (m : (i ≡ k) × (y : Processor) × (slice_get (before_own Take k s).processors k ≡ Some y) × (own_step o.goal Take y ≡ q)).
      let is : x ≡ p = same_at s.processors k x p (subst (λ (j : ℕ). slice_get s.processors j ≡ Some x) m.0 at_x) at in
      let low : full o + 2 < work o p = own_less Take h in
      let new : full o + 2 ≡ work o q = ap (work o) m.3 in
      let old : work o p ≡ work o x = ap (work o) (sym is) in
      let r : Compared Take i x q = (omega arith, λ _. omega arith) in r)
      (λ (m : (i ≢ k) × (slice_get (before_own Take k s).processors i ≡ Some q)).
      let from = follows_drain k s i q m.1 in
      let is : from.0 ≡ x = same_at s.processors i from.0 x from.1 at_x in
      let same : work o q ≡ work o from.0 = same_stage_work o from.0 q from.2.phase from.2.era (all_wait h i from.0 from.1) in
      let old : work o from.0 ≡ work o x = ap (work o) is in
      let r : Compared Take i x q = (omega arith, λ e. absurd (m.0 e)) in r)
      (at_change (own_step o.goal Take) k (before_own Take k s) i q at_q)

  stepping : (e : Event) → is_take e ≡ false → due o s.processors p p.phase ≡ Some e → (i : ℕ) (x q : Processor) → slice_get s.processors i ≡ Some x → slice_get (after e) i ≡ Some q → Compared e i x q
  stepping e quiet h i x q at_x at_q =
      let still : (before_own e k s).processors ≡ s.processors = left_alone e k s quiet in
      ⊎_elim
      (λ (m : (i ≡ k) × (y : Processor) × (slice_get (before_own e k s).processors k ≡ Some y) × (own_step o.goal e y ≡ q)).
      let is : x ≡ p = same_at s.processors k x p (subst (λ (j : ℕ). slice_get s.processors j ≡ Some x) m.0 at_x) at in
      let here : m.1 ≡ p = same_at s.processors k m.1 p (ap (λ (ps : List Processor). slice_get ps k) (sym still) ∙ m.2) at in
      let low : work o (own_step o.goal e p) < work o p = own_less e h in
      let new : work o (own_step o.goal e p) ≡ work o q = ap (λ (y : Processor). work o (own_step o.goal e y)) (sym here) ∙ ap (work o) m.3 in
      let old : work o p ≡ work o x = ap (work o) (sym is) in
      let r : Compared e i x q = (omega arith, λ _. omega arith) in r)
      (λ (m : (i ≢ k) × (slice_get (before_own e k s).processors i ≡ Some q)).
      let is : q ≡ x = same_at s.processors i q x (ap (λ (ps : List Processor). slice_get ps i) (sym still) ∙ m.1) at_x in
      let same : work o q ≡ work o x = ap (work o) is in
      let r : Compared e i x q = (omega arith, λ e. absurd (m.0 e)) in r)
      (at_change (own_step o.goal e) k (before_own e k s) i q at_q)

  compared : (e : Event) → due o s.processors p p.phase ≡ Some e → (i : ℕ) (x q : Processor) → slice_get s.processors i ≡ Some x → slice_get (after e) i ≡ Some q → Compared e i x q
  compared e h i x q at_x at_q = one (is_take e) refl
    where
      one : (b : Bool) → is_take e ≡ b → Compared e i x q
      one false is = stepping e is h i x q at_x at_q
      one true is =
          let take : e ≡ Take = take_only e is in
          taking (h ∙ ap Some take) i x q at_x (subst (λ (v : Event). slice_get (after v) i ≡ Some q) take at_q)

  total_falls : (e : Event) → due o s.processors p p.phase ≡ Some e → total o (after e) < total o s.processors
  total_falls e h =
      let same = step_length o.goal e k s p at in
      let within = slice_get_within s.processors k p at in
      let q = processor_of (after e) k (omega arith) in
      less o s.processors (after e) k p q.0 same (λ i x y at_x at_y. (compared e h i x y at_x at_y).0) at q.1 ((compared e h k p q.0 at q.1).1 refl)

remaining_less : (o : Order) (ps : List Processor) (b : Bool) → option_map_or (λ v. total v ps) (if b then None else Some o) 0 ≤ total o ps
remaining_less o ps true = omega arith
remaining_less o ps false = omega arith

-- each event that is due lowers what is left
pub falls : (m : Machine) (k : ℕ) (e : Event) → Arises m → due_at m k ≡ Some e → work_of (next m (Steps k e)) < work_of m
falls m k e a h = one m.system m.order a h
  where
    two : (s : System) (o : Order) → Arises (machine s (Some o)) → (x : Option Processor) → slice_get s.processors k ≡ x → option_map_or (λ p. due o s.processors p p.phase) x None ≡ Some e
        → work_of (next (machine s (Some o)) (Steps k e)) < total o s.processors
    two s o a None at h = absurd (cc)
    two s o a (Some p) at h =
        let low = total_falls s o a k p at e h in
        let most = remaining_less o (step o.goal e k s).processors (is_over o (step o.goal e k s).processors) in
        omega (arith, low, most)

    one : (s : System) (x : Option Order) → Arises (machine s x) → due_at (machine s x) k ≡ Some e → work_of (next (machine s x) (Steps k e)) < work_of (machine s x)
    one s None a h = absurd (cc)
    one s (Some o) a h = two s o a (slice_get s.processors k) refl h
