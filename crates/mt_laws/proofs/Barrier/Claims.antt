-- The barriers' claims, from the invariant of all reached states.
use Rattle.std.proofs.Common.{◌≡◌, ℕ, ◌≤◌, List, get_or, Some, None, Option, Bool, true, false, refl, sym, ap, subst, ◌∙◌, arith, inl, ⊎_elim, lit≤}
use Rattle.std.specs.Prelude.{slice_get, ◌||◌}
use Rattle.std.specs.List.{All}
use Rattle.std.proofs.lemmas.Bool.{le-ltb}
use Rattle.std.proofs.lemmas.Option.{get_or_from_slice_get, slice_get-get_or, slice_get_within}
use Rattle.mt_machine.specs.declared.phase.Phase.{Phase}
use Rattle.mt_machine.specs.declared.phase.Phase.TheVariants.{Running, Taken, Arrived, Arrived2}
use Rattle.mt_machine.specs.declared.go.Go.{Go}
use Rattle.mt_machine.specs.declared.go.Go.TheVariants.{Pending, Given, Cancelled}
use Rattle.mt_machine.specs.System.{Processor, System}
use Rattle.mt_machine.specs.Access.{is_running}
use Rattle.mt_machine.specs.Machine.{Machine, Order, Reached, is_given, is_changing, is_arrived, is_arrived_again, has_passed, has_arrived, has_arrived_again, has_released, common_era}
use Rattle.mt_machine.specs.Start.{IsQuiet, IsBroadcast, IsStart}
use Rattle.mt_laws.specs.Barriers.{IsAt, BarriersHold, NoneRunsInChange}
use Rattle.mt_laws.proofs.Barrier.Stages.{Stage, stage_of, stages}
use Rattle.mt_laws.proofs.Barrier.Ranks.{rank, rank_of, is_ahead, At, Guarded, processor_at, stage_at}
use Rattle.mt_laws.proofs.Barrier.Barriers.{Rest, Kept, Invariant, reached_keeps}

-- ---- ranks and the barriers' words

pub passed_rank : (ph : Phase) (ahead : Bool) → (is_running ph ≡ false → ahead ≡ false) → (is_changing ph || is_arrived_again ph || ahead) ≡ true → 3 ≤ rank_of ph ahead
passed_rank Running true in_step h = lit≤ tt
passed_rank Running false in_step h = absurd (cc)
passed_rank Taken true in_step h = absurd (let e : true ≡ false = in_step refl in cc)
passed_rank Taken false in_step h = absurd (cc)
passed_rank Arrived true in_step h = absurd (let e : true ≡ false = in_step refl in cc)
passed_rank Arrived false in_step h = absurd (cc)
passed_rank Arrived2 ahead in_step h = lit≤ tt
passed_rank other ahead in_step h = lit≤ tt

rank_arrived : (ph : Phase) (ahead : Bool) → 2 ≤ rank_of ph ahead → (is_arrived ph || (is_changing ph || is_arrived_again ph || ahead)) ≡ true
rank_arrived Running true h = refl
rank_arrived Running false h = absurd (omega arith)
rank_arrived Taken ahead h = absurd (omega arith)
rank_arrived Arrived ahead h = refl
rank_arrived Arrived2 ahead h = refl
rank_arrived other ahead h = refl

pub released_rank : (ph : Phase) (ahead : Bool) → (is_running ph ≡ false → ahead ≡ false) → ahead ≡ true → 5 ≤ rank_of ph ahead
released_rank Running true in_step h = lit≤ tt
released_rank Running false in_step h = absurd (cc)
released_rank other true in_step h = absurd (let e : true ≡ false = in_step refl in cc)
released_rank other false in_step h = absurd (cc)

rank_again : (ph : Phase) (ahead : Bool) → 4 ≤ rank_of ph ahead → (is_arrived_again ph || ahead) ≡ true
rank_again Running true h = refl
rank_again Running false h = absurd (omega arith)
rank_again Taken ahead h = absurd (omega arith)
rank_again Arrived ahead h = absurd (omega arith)
rank_again Arrived2 ahead h = refl
rank_again other ahead h = absurd (omega arith)

changing_rank : (ph : Phase) (ahead : Bool) → is_changing ph ≡ true → rank_of ph ahead ≡ 3
changing_rank Running ahead h = absurd (cc)
changing_rank Taken ahead h = absurd (cc)
changing_rank Arrived ahead h = absurd (cc)
changing_rank Arrived2 ahead h = absurd (cc)
changing_rank other ahead h = refl

pub running_rank : (ph : Phase) (ahead : Bool) → is_running ph ≡ true → 2 ≤ rank_of ph ahead → rank_of ph ahead ≡ 5
running_rank Running true runs h = refl
running_rank Running false runs h = absurd (omega arith)
running_rank other ahead runs h = absurd (cc)

not_changing : (ph : Phase) → is_running ph ≡ true → is_changing ph ≡ false
not_changing Running runs = refl
not_changing other runs = absurd (cc)

-- ---- the start

pub all_get : (P : Processor → Type 0) (ps : List Processor) → All P ps → (i : ℕ) (p : Processor) → slice_get ps i ≡ Some p → P p
all_get P ps all i p at = subst P (get_or_from_slice_get ps i p p at) (all i p (slice_get_within ps i p at))

pub all_of : (P : Processor → Type 0) (ps : List Processor) → ((i : ℕ) (p : Processor) → slice_get ps i ≡ Some p → P p) → All P ps
all_of P ps h k d within = h k (get_or ps k d) (slice_get-get_or ps k d within)

pub quiet_rest : (m : Machine) → IsQuiet m → Rest (stages m.system)
quiet_rest m q = record {
  running = λ i x at. let found = processor_at m.system.processors i x at in
      subst (λ (z : Stage). is_running z.0 ≡ true) found.2 (all_get (λ p. is_running p.phase ≡ true) m.system.processors q.running i found.0 found.1);
  one_era = λ i j x y at_x at_y. common i x at_x ∙ sym (common j y at_y);
}
  where
    common : (i : ℕ) (x : Stage) → At (stages m.system) i x → x.1 ≡ common_era m.system.processors
    common i x at =
        let found = processor_at m.system.processors i x at in
        subst (λ (z : Stage). z.1 ≡ common_era m.system.processors) found.2 (all_get (λ p. p.era ≡ common_era m.system.processors) m.system.processors q.one_era i found.0 found.1)

pub quiet_invariant : (m : Machine) → IsQuiet m → Invariant m
quiet_invariant m q = subst (λ (o : Option Order). Kept o (stages m.system)) (sym q.no_order) (quiet_rest m q)

-- all have taken, with the order's era
module _ (m : Machine) (o : Order) (b : IsBroadcast m o) where
  broadcast_stage : (i : ℕ) (x : Stage) → At (stages m.system) i x → x ≡ (Taken, o.from_era)
  broadcast_stage i x at =
      let found = processor_at m.system.processors i x at in
      let phase = all_get (λ p. p.phase ≡ Taken) m.system.processors b.taken i found.0 found.1 in
      let era = all_get (λ p. p.era ≡ o.from_era) m.system.processors b.one_era i found.0 found.1 in
      sym found.2 ∙ (λ j. (phase j, era j))

  pub broadcast_rank : (i : ℕ) (x : Stage) → At (stages m.system) i x → rank o x ≡ 1
  broadcast_rank i x at = ap (rank o) (broadcast_stage i x at)

  pub broadcast_guarded : Guarded o (stages m.system)
  broadcast_guarded = record {
    first = λ i j x y at_x at_y h. absurd (let r = broadcast_rank i x at_x in omega arith);
    second = λ i j x y at_x at_y h. absurd (let r = broadcast_rank i x at_x in omega arith);
    given = λ i x at h. absurd (let r = broadcast_rank i x at in omega arith);
    in_step = λ i x at _. ap (is_ahead o) (broadcast_stage i x at) ∙ le-ltb o.from_era o.from_era (omega arith);
    eras = λ i x at. inl (ap (λ (y : Stage). y.1) (broadcast_stage i x at));
  }

  broadcast_invariant : Invariant m
  broadcast_invariant = subst (λ (x : Option Order). Kept x (stages m.system)) (sym b.order) broadcast_guarded

pub start_invariant : (m : Machine) → IsStart m → Invariant m
start_invariant m s = ⊎_elim (λ (q : IsQuiet m). quiet_invariant m q) (λ (b : (o : Order) × IsBroadcast m o). broadcast_invariant m b.0 b.1) s

-- ---- the claims

go_given : (go : Go) → is_given go ≡ true → go ≡ Given
go_given Pending h = absurd (cc)
go_given Given h = refl
go_given Cancelled h = absurd (cc)

pub barriers_of : (m : Machine) → Invariant m → BarriersHold m
barriers_of m inv = record { first = firsts; given = gives; second = seconds }
  where
    guard : (o : Order) → m.order ≡ Some o → Guarded o (stages m.system)
    guard o is = subst (λ (x : Option Order). Kept x (stages m.system)) is inv

    at_stage : (i : ℕ) (p : Processor) → IsAt m i p → At (stages m.system) i (stage_of p)
    at_stage i p at = stage_at m.system.processors i p at

    firsts : (o : Order) (i j : ℕ) (p q : Processor) → m.order ≡ Some o → IsAt m i p → IsAt m j q → has_passed o p ≡ true → has_arrived o q ≡ true
    firsts o i j p q is at_p at_q h =
        let g = guard o is in
        rank_arrived q.phase (is_ahead o (stage_of q))
        (g.first i j (stage_of p) (stage_of q) (at_stage i p at_p) (at_stage j q at_q)
        (passed_rank p.phase (is_ahead o (stage_of p)) (g.in_step i (stage_of p) (at_stage i p at_p)) h))

    gives : (o : Order) (i : ℕ) (p : Processor) → m.order ≡ Some o → IsAt m i p → has_passed o p ≡ true → o.go ≡ Given
    gives o i p is at h =
        let g = guard o is in
        go_given o.go
        (g.given i (stage_of p) (at_stage i p at)
        (passed_rank p.phase (is_ahead o (stage_of p)) (g.in_step i (stage_of p) (at_stage i p at)) h))

    seconds : (o : Order) (i j : ℕ) (p q : Processor) → m.order ≡ Some o → IsAt m i p → IsAt m j q → has_released o p ≡ true → has_arrived_again o q ≡ true
    seconds o i j p q is at_p at_q h =
        let g = guard o is in
        rank_again q.phase (is_ahead o (stage_of q))
        (g.second i j (stage_of p) (stage_of q) (at_stage i p at_p) (at_stage j q at_q)
        (released_rank p.phase (is_ahead o (stage_of p)) (g.in_step i (stage_of p) (at_stage i p at_p)) h))

not_true : (b : Bool) → (b ≡ true → ⊥) → b ≡ false
not_true true h = absurd (h refl)
not_true false h = refl

pub exclusive_in : (s : System) (o : Option Order) → Kept o (stages s) → NoneRunsInChange (record { system = s; order = o })
exclusive_in s None r i j p q at_p at_q h =
    let runs : is_running p.phase ≡ true = r.running i (stage_of p) (stage_at s.processors i p at_p) in
    let quiet : is_changing p.phase ≡ false = not_changing p.phase runs in
    absurd (cc)
exclusive_in s (Some o) g i j p q at_p at_q h =
    not_true (is_running q.phase) (λ runs. absurd (clash runs))
  where
    clash : is_running q.phase ≡ true → ⊥
    clash runs =
        let sp = stage_at s.processors i p at_p in
        let sq = stage_at s.processors j q at_q in
        let third : rank o (stage_of p) ≡ 3 = changing_rank p.phase (is_ahead o (stage_of p)) h in
        let second : 2 ≤ rank o (stage_of q) = g.first i j (stage_of p) (stage_of q) sp sq (omega arith) in
        let fifth : rank o (stage_of q) ≡ 5 = running_rank q.phase (is_ahead o (stage_of q)) runs second in
        let fourth : 4 ≤ rank o (stage_of p) = g.second j i (stage_of q) (stage_of p) sq sp (omega arith) in
        omega arith

pub barriers_hold_of : (s t : Machine) → IsStart s → Reached s t → BarriersHold t
barriers_hold_of s t q r = barriers_of t (reached_keeps r (start_invariant s q))

pub none_runs_of : (s t : Machine) → IsStart s → Reached s t → NoneRunsInChange t
none_runs_of s t q r = exclusive_in t.system t.order (reached_keeps r (start_invariant s q))
