-- Which processors take in an update, and how often; and that a take is a fence.
use Rattle.std.proofs.Common.{◌≡◌, ℕ, zero, suc, ◌+◌, ◌≤◌, ◌==◌, List, [], ◌∷◌, length, set, Some, None, Option, Bool, true, false, refl, sym, ap, subst, ◌∙◌, arith, ⊎_elim, eq-eqb, ne_eqb, lit≤}
use Rattle.std.specs.Prelude.{slice_get, if◌then◌else◌, cond, nat_lt, not, ◌&&◌, ◌||◌}
use Rattle.std.specs.List.{count_by, list_all, cons_option}
use Rattle.std.specs.Option.{option_map_or, option_map}
use Rattle.std.proofs.lemmas.Bool.{eqb-true, eqb-false, le-ltb, lt-ltb}
use Rattle.mt_machine.specs.declared.phase.Phase.{Phase}
use Rattle.mt_machine.specs.declared.phase.Phase.TheVariants.{Running, Taken, Arrived, Arrived2}
use Rattle.mt_machine.specs.declared.event.Event.{Event}
use Rattle.mt_machine.specs.declared.event.Event.TheVariants.{Take}
use Rattle.mt_machine.specs.declared.op.Op.TheVariants.{Fence}
use Rattle.mt_machine.specs.declared.go.Go.TheVariants.{Pending, Given, Cancelled}
use Rattle.mt_machine.specs.System.{Processor, System, change}
use Rattle.mt_machine.specs.Bus.{drain}
use Rattle.mt_machine.specs.Access.{access, is_running, access_at, Answered}
use Rattle.mt_machine.specs.Machine.{Machine, Order, MachineEvent, Accesses, Controls, Calls, Goes, Cancels, Steps, IsEnabled, next, run, AreEnabled, due, own_step, step, has_released, is_cancelled, is_over, remaining_order, common_era}
use Rattle.mt_machine.specs.Start.{IsQuiet}
use Rattle.mt_machine.specs.Update.{is_led, is_cancel, taker, takes_of}
use Rattle.mt_laws.specs.Counts.{TakesAtMostOnce, TakesOnce}
use Rattle.mt_laws.specs.Kept.{TakeFences}
use Rattle.mt_laws.proofs.Barrier.Stages.{Stage, stage_of, stages}
use Rattle.mt_laws.proofs.Barrier.Ranks.{rank, rank_of, is_ahead, At, Guarded, stage_at, processor_at, all_at}
use Rattle.mt_laws.proofs.Barrier.Barriers.{Kept, keeps, step_moves, step_stages, step_guarded}
use Rattle.mt_laws.proofs.Barrier.Claims.{all_get, quiet_invariant}
use Rattle.mt_laws.proofs.Steps.StepCounts.{count_more}
use Rattle.mt_laws.proofs.Steps.StepTotals.{own_running, set_elsewhere}
use Rattle.mt_laws.proofs.Updates.Whole.{ended, over_released, released_two}
use Rattle.mt_laws.proofs.Clearing.Renewed.{is_take, no_take}
use Rattle.mt_regs.specs.RegisterFile.{RegisterFile}
use Rattle.mt_machine.specs.declared.done.Done.TheVariants.{Busy}
use Rattle.std.proofs.lemmas.Option.{slice_get-map, slice_get_within}

-- 1 where a processor has yet to take
abbrev left : Order → Option Stage → ℕ
left o None = 0
left o (Some x) = cond (rank o x == 0) 1 0

abbrev pub mine : ℕ → List ℕ → ℕ
mine k ks = count_by (λ j. j == k) ks

abbrev takes_now : ℕ → MachineEvent → ℕ
takes_now k e = mine k (takes_of (e ∷ []))

takes_more : (k : ℕ) (e : MachineEvent) (es : List MachineEvent) → mine k (takes_of (e ∷ es)) ≡ takes_now k e + mine k (takes_of es)
takes_more k e es = one (taker e)
  where
    one : (o : Option ℕ) → mine k (cons_option o (takes_of es)) ≡ mine k (cons_option o []) + mine k (takes_of es)
    one None = omega arith
    one (Some j) =
        let a = count_more (λ i. i == k) j (takes_of es) in
        let b = count_more (λ i. i == k) j [] in
        let none : mine k [] ≡ 0 = refl in
        omega arith

-- ---- one step

zero_left : (n : ℕ) → 1 ≤ n → cond {A = ℕ} (n == 0) 1 0 ≡ 0
zero_left n h = ap (λ b. cond {A = ℕ} b 1 0) (ne_eqb n 0 (omega arith))

level : (o : Order) (ps : List Processor) (p : Processor) (ph : Phase) (w : Event) → is_running ph ≡ true → due o ps p ph ≡ Some w → (p.era ≡ o.from_era) × (is_cancelled o.go ≡ false)
level o ps p Running w runs h = one (p.era == o.from_era) (is_cancelled o.go) refl refl h
  where
    one : (a b : Bool) → (p.era == o.from_era) ≡ a → is_cancelled o.go ≡ b → (if a && not b then Some Take else None) ≡ Some w → (p.era ≡ o.from_era) × (is_cancelled o.go ≡ false)
    one true false is off g = (eqb-true p.era o.from_era is, off)
    one true true is off g = absurd (cc)
    one false b is off g = absurd (cc)
level o ps p other w runs h = absurd (cc)

running_rank : (ph : Phase) (ahead : Bool) → is_running ph ≡ true → ahead ≡ false → rank_of ph ahead ≡ 0
running_rank Running true h g = absurd (cc)
running_rank Running false h g = refl
running_rank other ahead h g = absurd (cc)

out_rank : (ph : Phase) (ahead : Bool) → is_running ph ≡ false → 1 ≤ rank_of ph ahead
out_rank Running ahead h = absurd (cc)
out_rank Taken ahead h = lit≤ tt
out_rank Arrived ahead h = lit≤ tt
out_rank Arrived2 ahead h = lit≤ tt
out_rank other ahead h = lit≤ tt

no_taker : (j : ℕ) (w : Event) → is_take w ≡ false → taker (Steps j w) ≡ None
unfolding is_take
no_taker j Take h = absurd (cc)
no_taker j other h = refl

quiet_takes : (k j : ℕ) (w : Event) → is_take w ≡ false → takes_now k (Steps j w) ≡ 0
quiet_takes k j w h = ap (λ (o : Option ℕ). mine k (cons_option o [])) (no_taker j w h)

own_takes : (k : ℕ) → takes_now k (Steps k Take) ≡ 1
own_takes k =
    let a = count_more (λ i. i == k) k [] in
    let none : mine k [] ≡ 0 = refl in
    let some : cond {A = ℕ} (k == k) 1 0 ≡ 1 = ap (λ b. cond {A = ℕ} b 1 0) (eq-eqb k k refl) in
    omega arith

other_takes : (k j : ℕ) (w : Event) → (j == k) ≡ false → takes_now k (Steps j w) ≡ 0
other_takes k j Take off =
    let a = count_more (λ i. i == k) j [] in
    let none : mine k [] ≡ 0 = refl in
    let some : cond {A = ℕ} (j == k) 1 0 ≡ 0 = ap (λ b. cond {A = ℕ} b 1 0) off in
    omega arith
other_takes k j other off = refl

module _ (o : Order) (s : System) (k : ℕ) (p : Processor) (at : slice_get s.processors k ≡ Some p) (g : Guarded o (stages s)) where
  own_counts : (w : Event) → is_cancelled o.go ≡ false → due o s.processors p p.phase ≡ Some w → takes_now k (Steps k w) + left o (Some (stage_of (own_step o.goal w p))) ≡ left o (Some (stage_of p))
  own_counts w off h = one (is_running p.phase) refl
    where
      here : At (stages s) k (stage_of p)
      here = stage_at s.processors k p at

      one : (b : Bool) → is_running p.phase ≡ b → takes_now k (Steps k w) + left o (Some (stage_of (own_step o.goal w p))) ≡ left o (Some (stage_of p))
      one true runs =
          let take : w ≡ Take = own_running o s.processors p p.phase w runs h in
          let era = (level o s.processors p p.phase w runs h).0 in
          let behind : is_ahead o (stage_of p) ≡ false = le-ltb o.from_era p.era (omega arith) in
          let was : left o (Some (stage_of p)) ≡ 1 = ap (λ (n : ℕ). cond {A = ℕ} (n == 0) 1 0) (running_rank p.phase (is_ahead o (stage_of p)) runs behind) in
          ap (λ (v : Event). takes_now k (Steps k v) + left o (Some (stage_of (own_step o.goal v p)))) take
          ∙ ap (λ n. n + 0) (own_takes k) ∙ sym was
      one false quiet =
          let move = step_moves o s.processors p (g.eras k (stage_of p) here) p.phase w refl h (g.in_step k (stage_of p) here) in
          let some = out_rank p.phase (is_ahead o (stage_of p)) quiet in
          let up : rank o (stage_of p) ≤ rank o (stage_of (own_step o.goal w p)) = ⊎_elim (λ (u : rank o (stage_of p) ≤ rank o (stage_of (own_step o.goal w p))). u) (λ (c : is_cancelled o.go ≡ true). absurd (cc)) move.up in
          let before = zero_left (rank o (stage_of p)) some in
          let later = zero_left (rank o (stage_of (own_step o.goal w p))) (omega arith) in
          let none = quiet_takes k k w (no_take o s.processors p p.phase w quiet h) in
          omega arith

put : (vs : List Stage) (k : ℕ) (y z : Stage) → At vs k z → At (set vs k y) k y
put [] k y z h = absurd (cc)
put (v ∷ vs) zero y z h = refl
put (v ∷ vs) (suc k) y z h = put vs k y z h

step_counts : (o : Order) (s : System) (k j : ℕ) (p : Processor) (w : Event) → slice_get s.processors j ≡ Some p → Guarded o (stages s) → is_cancelled o.go ≡ false → due o s.processors p p.phase ≡ Some w
    → takes_now k (Steps j w) + left o (slice_get (stages (step o.goal w j s)) k) ≡ left o (slice_get (stages s) k)
step_counts o s k j p w at g off h = one (j == k) refl
  where
    sets : stages (step o.goal w j s) ≡ set (stages s) j (stage_of (own_step o.goal w p))
    sets = step_stages o.goal w j s p at

    own : takes_now j (Steps j w) + left o (slice_get (stages (step o.goal w j s)) j) ≡ left o (slice_get (stages s) j)
    own =
        ap (λ (x : Option Stage). takes_now j (Steps j w) + left o x) (ap (λ vs. slice_get vs j) sets ∙ put (stages s) j (stage_of (own_step o.goal w p)) (stage_of p) (stage_at s.processors j p at))
        ∙ own_counts o s j p at g w off h
        ∙ ap (left o) (sym (stage_at s.processors j p at))

    one : (b : Bool) → (j == k) ≡ b → takes_now k (Steps j w) + left o (slice_get (stages (step o.goal w j s)) k) ≡ left o (slice_get (stages s) k)
    one true is = subst (λ (i : ℕ). takes_now i (Steps j w) + left o (slice_get (stages (step o.goal w j s)) i) ≡ left o (slice_get (stages s) i)) (eqb-true j k is) own
    one false is =
        let same : slice_get (stages (step o.goal w j s)) k ≡ slice_get (stages s) k = ap (λ vs. slice_get vs k) sets ∙ set_elsewhere (stages s) j k (stage_of (own_step o.goal w p)) (λ e. eqb-false j k is (sym e)) in
        let none = other_takes k j w is in
        let b : left o (slice_get (stages (step o.goal w j s)) k) ≡ left o (slice_get (stages s) k) = ap (left o) same in
        omega arith

-- ---- lists of events

abbrev left_of : Option Order → Option Stage → ℕ
left_of None x = 0
left_of (Some o) x = if is_cancelled o.go then 0 else left o x

remaining_less : (o : Order) (ps : List Processor) (x : Option Stage) → left_of (remaining_order o ps) x ≤ left_of (Some o) x
remaining_less o ps x = one (is_over o ps)
  where
    one : (b : Bool) → left_of (if b then None else Some o) x ≤ left_of (Some o) x
    one true = omega arith
    one false = omega arith

bound : (k : ℕ) (es : List MachineEvent) (s : System) (v : Option Order) → Kept v (stages s) → AreEnabled (record { system = s; order = v }) es → list_all is_led es ≡ true → mine k (takes_of es) ≤ left_of v (slice_get (stages s) k)
bound k [] s v kept enabled led = omega arith
bound k (Accesses j op ∷ es) s v kept enabled led = absurd (cc)
bound k (Controls j c ∷ es) s v kept enabled led = absurd (cc)
bound k (Calls goal ∷ es) s v kept enabled led = absurd (cc)
bound k (Goes ∷ es) s None kept enabled led = absurd (let h = enabled.0 in cc)
bound k (Goes ∷ es) s (Some o) kept enabled led =
    let later = bound k es s (remaining_order (record o { go = Given }) s.processors) (keeps (record { system = s; order = Some o }) Goes enabled.0 kept) enabled.1 led in
    let less = remaining_less (record o { go = Given }) s.processors (slice_get (stages s) k) in
    let go : o.go ≡ Pending = let h = enabled.0 in cc in
    let now : left_of (Some o) (slice_get (stages s) k) ≡ left o (slice_get (stages s) k) = ap (λ b. if b then 0 else left o (slice_get (stages s) k)) (ap is_cancelled go) in
    let a = takes_more k Goes es in
    let none : takes_now k Goes ≡ 0 = refl in
    omega arith
bound k (Cancels ∷ es) s None kept enabled led = absurd (let h = enabled.0 in cc)
bound k (Cancels ∷ es) s (Some o) kept enabled led =
    let later = bound k es s (remaining_order (record o { go = Cancelled }) s.processors) (keeps (record { system = s; order = Some o }) Cancels enabled.0 kept) enabled.1 led in
    let less = remaining_less (record o { go = Cancelled }) s.processors (slice_get (stages s) k) in
    let a = takes_more k Cancels es in
    let none : takes_now k Cancels ≡ 0 = refl in
    omega arith
bound k (Steps j w ∷ es) s None kept enabled led = absurd (let h = enabled.0 in cc)
bound k (Steps j w ∷ es) s (Some o) kept enabled led =
    at_processor (slice_get s.processors j) refl enabled.0
    (bound k es (step o.goal w j s) (remaining_order o (step o.goal w j s).processors) (keeps (record { system = s; order = Some o }) (Steps j w) enabled.0 kept) enabled.1 led)
  where
    quiet : (p : Processor) → due o s.processors p p.phase ≡ Some w → is_cancelled o.go ≡ true → is_take w ≡ false
    quiet p h on = one (is_running p.phase) refl
      where
        one : (b : Bool) → is_running p.phase ≡ b → is_take w ≡ false
        one true runs = absurd (let off = (level o s.processors p p.phase w runs h).1 in cc)
        one false rests = no_take o s.processors p p.phase w rests h

    at_processor : (q : Option Processor) → slice_get s.processors j ≡ q → option_map_or (λ p. due o s.processors p p.phase) q None ≡ Some w
        → mine k (takes_of es) ≤ left_of (remaining_order o (step o.goal w j s).processors) (slice_get (stages (step o.goal w j s)) k)
        → mine k (takes_of (Steps j w ∷ es)) ≤ left_of (Some o) (slice_get (stages s) k)
    at_processor None at h later = absurd (cc)
    at_processor (Some p) at h later = one (is_cancelled o.go) refl
      where
        one : (b : Bool) → is_cancelled o.go ≡ b → mine k (takes_of (Steps j w ∷ es)) ≤ left_of (Some o) (slice_get (stages s) k)
        one true on =
            let less = remaining_less o (step o.goal w j s).processors (slice_get (stages (step o.goal w j s)) k) in
            let nothing : left_of (Some o) (slice_get (stages (step o.goal w j s)) k) ≡ 0 = ap (λ b. if b then 0 else left o (slice_get (stages (step o.goal w j s)) k)) on in
            let a = takes_more k (Steps j w) es in
            let none = quiet_takes k j w (quiet p h on) in
            omega arith
        one false off =
            let less = remaining_less o (step o.goal w j s).processors (slice_get (stages (step o.goal w j s)) k) in
            let then' : left_of (Some o) (slice_get (stages (step o.goal w j s)) k) ≡ left o (slice_get (stages (step o.goal w j s)) k) = ap (λ b. if b then 0 else left o (slice_get (stages (step o.goal w j s)) k)) off in
            let now : left_of (Some o) (slice_get (stages s) k) ≡ left o (slice_get (stages s) k) = ap (λ b. if b then 0 else left o (slice_get (stages s) k)) off in
            let a = takes_more k (Steps j w) es in
            let b = step_counts o s k j p w at kept off h in
            omega arith

-- where all have released, none has yet to take
none_left : (k : ℕ) (o : Order) (s : System) → Guarded o (stages s) → list_all (has_released o) s.processors ≡ true → left o (slice_get (stages s) k) ≡ 0
none_left k o s g all = one (slice_get (stages s) k) refl
  where
    one : (x : Option Stage) → slice_get (stages s) k ≡ x → left o x ≡ 0
    one None at = refl
    one (Some x) at =
        let found = processor_at s.processors k x at in
        let q = found.0 in
        let high : 2 ≤ rank o (stage_of q) = released_two q.phase (is_ahead o (stage_of q)) (g.in_step k (stage_of q) (stage_at s.processors k q found.1)) (all_at (has_released o) s.processors k q all found.1) in
        ap (λ (y : Stage). left o (Some y)) (sym found.2) ∙ zero_left (rank o (stage_of q)) (omega arith)

module _ (k : ℕ) where
  resume : (es : List MachineEvent) (s : System) (o : Order) → list_all (λ e. is_led e && not (is_cancel e)) es ≡ true → is_cancelled o.go ≡ false → (list_all (has_released o) s.processors ≡ true → left o (slice_get (stages s) k) ≡ 0)
      → Kept (remaining_order o s.processors) (stages s) → AreEnabled (record { system = s; order = remaining_order o s.processors }) es → (run (record { system = s; order = remaining_order o s.processors }) es).order ≡ None
      → (Guarded o (stages s) → AreEnabled (record { system = s; order = Some o }) es → (run (record { system = s; order = Some o }) es).order ≡ None → mine k (takes_of es) ≡ left o (slice_get (stages s) k))
      → mine k (takes_of es) ≡ left o (slice_get (stages s) k)
  resume es s o led off at_end kept enabled over more = one (is_over o s.processors) refl kept enabled over
    where
      one : (b : Bool) → is_over o s.processors ≡ b → Kept (if b then None else Some o) (stages s) → AreEnabled (record { system = s; order = if b then None else Some o }) es → (run (record { system = s; order = if b then None else Some o }) es).order ≡ None
          → mine k (takes_of es) ≡ left o (slice_get (stages s) k)
      one true is kept' enabled' over' = ap (λ (fs : List MachineEvent). mine k (takes_of fs)) (ended es s enabled' led) ∙ sym (at_end (over_released o s.processors off is))
      one false is kept' enabled' over' = more kept' enabled' over'

  exact : (es : List MachineEvent) (s : System) (o : Order) → is_cancelled o.go ≡ false → Guarded o (stages s) → AreEnabled (record { system = s; order = Some o }) es → list_all (λ e. is_led e && not (is_cancel e)) es ≡ true
      → (run (record { system = s; order = Some o }) es).order ≡ None → mine k (takes_of es) ≡ left o (slice_get (stages s) k)
  exact [] s o off g enabled led over = absurd (cc)
  exact (Accesses j op ∷ es) s o off g enabled led over = absurd (cc)
  exact (Controls j c ∷ es) s o off g enabled led over = absurd (cc)
  exact (Calls goal ∷ es) s o off g enabled led over = absurd (cc)
  exact (Cancels ∷ es) s o off g enabled led over = absurd (cc)
  exact (Goes ∷ es) s o off g enabled led over =
      resume es s (record o { go = Given }) led refl (λ all. none_left k o s g all) (keeps (record { system = s; order = Some o }) Goes enabled.0 g) enabled.1 over
      (λ g' enabled' over'. exact es s (record o { go = Given }) refl g' enabled' led over')
  exact (Steps j w ∷ es) s o off g enabled led over =
      at_processor (slice_get s.processors j) refl enabled.0
      (λ g' enabled' over'. exact es (step o.goal w j s) o off g' enabled' led over')
    where
      at_processor : (q : Option Processor) → slice_get s.processors j ≡ q → option_map_or (λ p. due o s.processors p p.phase) q None ≡ Some w
          → (Guarded o (stages (step o.goal w j s)) → AreEnabled (record { system = step o.goal w j s; order = Some o }) es → (run (record { system = step o.goal w j s; order = Some o }) es).order ≡ None → mine k (takes_of es) ≡ left o (slice_get (stages (step o.goal w j s)) k))
          → mine k (takes_of (Steps j w ∷ es)) ≡ left o (slice_get (stages s) k)
      at_processor None at h more = absurd (cc)
      at_processor (Some p) at h more =
          let later = resume es (step o.goal w j s) o led off (λ all. none_left k o (step o.goal w j s) (step_guarded o w j s p at h g) all)
          (keeps (record { system = s; order = Some o }) (Steps j w) enabled.0 g) enabled.1 over more in
          let a = takes_more k (Steps j w) es in
          let b = step_counts o s k j p w at g off h in
          omega arith

-- ---- from a quiet start

past_end : {X : Type 0} (xs : List X) (k : ℕ) → slice_get xs k ≡ None → length xs ≤ k
past_end [] k h = omega arith
past_end (x ∷ xs) zero h = absurd (cc)
past_end (x ∷ xs) (suc k) h = let b = past_end xs k h in omega arith

quiet_left : (s : Machine) (goal : RegisterFile) (k : ℕ) → IsQuiet s → left (record { goal = goal; from_era = common_era s.system.processors; go = Pending }) (slice_get (stages s.system) k) ≡ (if nat_lt k (length s.system.processors) then 1 else 0)
quiet_left s goal k quiet = one (slice_get s.system.processors k) refl
  where
    o : Order
    o = record { goal = goal; from_era = common_era s.system.processors; go = Pending }

    one : (q : Option Processor) → slice_get s.system.processors k ≡ q → left o (slice_get (stages s.system) k) ≡ (if nat_lt k (length s.system.processors) then 1 else 0)
    one None at =
        ap (left o) (slice_get-map stage_of s.system.processors k ∙ ap (option_map stage_of) at)
        ∙ ap (λ b. if b then 1 else 0) (sym (le-ltb k (length s.system.processors) (past_end s.system.processors k at)))
    one (Some p) at =
        let runs = all_get (λ p. is_running p.phase ≡ true) s.system.processors quiet.running k p at in
        let era = all_get (λ p. p.era ≡ common_era s.system.processors) s.system.processors quiet.one_era k p at in
        let behind : is_ahead o (stage_of p) ≡ false = le-ltb o.from_era p.era (omega arith) in
        let within = slice_get_within s.system.processors k p at in
        ap (left o) (stage_at s.system.processors k p at)
        ∙ ap (λ (n : ℕ). cond {A = ℕ} (n == 0) 1 0) (running_rank p.phase (is_ahead o (stage_of p)) runs behind)
        ∙ ap (λ b. if b then 1 else 0) (sym (lt-ltb k (length s.system.processors) within))

pub takes_at_most_once : TakesAtMostOnce
takes_at_most_once s goal es quiet enabled led k =
    let first : Machine = next s (Calls goal) in
    let b = bound k es first.system first.order (keeps s (Calls goal) enabled.0 (quiet_invariant s quiet)) enabled.1 led in
    let a = quiet_left s goal k quiet in
    omega arith

pub takes_once : TakesOnce
takes_once s goal es quiet enabled led over k =
    exact k es s.system (record { goal = goal; from_era = common_era s.system.processors; go = Pending }) refl (keeps s (Calls goal) enabled.0 (quiet_invariant s quiet)) enabled.1 led over
    ∙ quiet_left s goal k quiet

-- ---- a take is a fence

take_is : is_take Take ≡ true
unfolding is_take
take_is = refl

takes_running : (o : Order) (ps : List Processor) (p : Processor) → due o ps p p.phase ≡ Some Take → is_running p.phase ≡ true
takes_running o ps p h = one (is_running p.phase) refl
  where
    one : (b : Bool) → is_running p.phase ≡ b → b ≡ true
    one true runs = refl
    one false rests = absurd (let off = no_take o ps p p.phase Take rests h in let on = take_is in cc)

fence_drains : (s : System) (k : ℕ) (p : Processor) → slice_get s.processors k ≡ Some p → is_running p.phase ≡ true → (access s k Fence).after ≡ drain k s
fence_drains s k p at runs =
    ap (λ (o : Option Processor). (option_map_or {U = Answered} (λ q. if is_running q.phase then access_at s k q Fence else record { answer = Busy; after = s }) o (record { answer = Busy; after = s })).after) at
    ∙ ap (λ (b : Bool). (picked b (access_at s k p Fence) (record { answer = Busy; after = s })).after) runs
  where
    picked : Bool → Answered → Answered → Answered
    picked b x y = if b then x else y

take_stays : (o : Order) (s : System) (k : ℕ) (p : Processor) → slice_get s.processors k ≡ Some p → p.era ≡ o.from_era → is_cancelled o.go ≡ false → remaining_order o (step o.goal Take k s).processors ≡ Some o
take_stays o s k p at era off = ap (λ b. if b then None else Some o) (over (list_all (has_released o) t.processors) (is_cancelled o.go) _ (not_all (list_all (has_released o) t.processors) refl) off)
  where
    t : System
    t = step o.goal Take k s

    here : At (stages t) k (Taken, p.era)
    here = ap (λ vs. slice_get vs k) (step_stages o.goal Take k s p at) ∙ put (stages s) k (Taken, p.era) (stage_of p) (stage_at s.processors k p at)

    not_all : (b : Bool) → list_all (has_released o) t.processors ≡ b → b ≡ false
    not_all false is = refl
    not_all true is = absurd (
        let found = processor_at t.processors k (Taken, p.era) here in
        let ahead : has_released o found.0 ≡ true = all_at (has_released o) t.processors k found.0 is found.1 in
        let same : found.0.era ≡ p.era = ap (λ (x : Stage). x.1) found.2 in
        let behind : nat_lt o.from_era found.0.era ≡ false = le-ltb o.from_era found.0.era (omega arith) in
        cc)

    over : (a b c : Bool) → a ≡ false → b ≡ false → (a || (b && c)) ≡ false
    over false false c h g = refl
    over true b c h g = absurd (cc)
    over a true c h g = absurd (cc)

take_at : (s : System) (v : Option Order) (k : ℕ) → IsEnabled (record { system = s; order = v }) (Steps k Take)
    → next (record { system = s; order = v }) (Steps k Take) ≡ record { system = change (λ p. record p { phase = Taken }) k (access s k Fence).after; order = v }
take_at s None k enabled = absurd (cc)
take_at s (Some o) k enabled = at_processor (slice_get s.processors k) refl enabled
  where
    at_processor : (q : Option Processor) → slice_get s.processors k ≡ q → option_map_or (λ p. due o s.processors p p.phase) q None ≡ Some Take
        → next (record { system = s; order = Some o }) (Steps k Take) ≡ record { system = change (λ p. record p { phase = Taken }) k (access s k Fence).after; order = Some o }
    at_processor None at h = absurd (cc)
    at_processor (Some p) at h =
        let runs = takes_running o s.processors p h in
        let l = level o s.processors p p.phase Take runs h in
        let fence = fence_drains s k p at runs in
        let stays = take_stays o s k p at l.0 l.1 in
        λ i. record { system = change (λ p. record p { phase = Taken }) k (sym fence i); order = stays i }

pub take_fences : TakeFences
take_fences m k enabled = take_at m.system m.order k enabled
