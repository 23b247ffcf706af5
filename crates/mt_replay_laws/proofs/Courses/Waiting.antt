-- Up to the first pass no processor has passed, and the order of an update keeps its goal and its era.
use Rattle.std.proofs.Common.{◌≡◌, ◌∙◌, ap, sym, refl, subst, arith, ℕ, zero, suc, set, List, [], ◌∷◌, Bool, true, false, if◌then◌else◌, Option, None, Some, slice_get}
use Rattle.std.specs.Prelude.{not, nat_lt, ◌&&◌, ◌||◌, ◌==◌}
use Rattle.std.specs.Option.{option_map_or}
use Rattle.std.specs.List.{All}
use Rattle.std.proofs.lemmas.Bool.{le-ltb}
use Rattle.mt_regs.specs.RegisterFile.{RegisterFile}
use Rattle.mt_machine.specs.declared.phase.Phase.{Phase}
use Rattle.mt_machine.specs.declared.phase.Phase.TheVariants.{Running, Taken, Arrived, Arrived2}
use Rattle.mt_machine.specs.declared.event.Event.{Event}
use Rattle.mt_machine.specs.declared.event.Event.TheVariants.{Take, Arrive, Leave, Pass, Release}
use Rattle.mt_machine.specs.declared.go.Go.TheVariants.{Given, Cancelled}
use Rattle.mt_machine.specs.System.{Processor, System}
use Rattle.mt_machine.specs.Access.{is_running}
use Rattle.mt_machine.specs.Machine.{Accesses, Calls, Cancels, Controls, Goes, IsEnabled, Machine, MachineEvent, Order, Steps, common_era, due, first_barrier_open, has_passed, is_arrived_again, is_cancelled, is_changing, is_over, next, own_step, step}
use Rattle.mt_machine.specs.Update.{is_call}
use Rattle.mt_machine.specs.Start.{IsQuiet}
use Rattle.mt_laws.proofs.Barrier.Barriers.{step_stages}
use Rattle.mt_laws.proofs.Barrier.Claims.{all_get, all_of}
use Rattle.mt_laws.proofs.Barrier.Ranks.{At, processor_at, stage_at}
use Rattle.mt_laws.proofs.Barrier.Stages.{Stage, access_stages, control_stages, stage_of, stages}
use Rattle.mt_core.proofs.Arising.{machine}

-- ---- the order

-- an order that stands is of the update to this goal, called in this era
abbrev pub IsOf : RegisterFile → ℕ → Option Order → Type 0
IsOf goal era None = Unit {0}
IsOf goal era (Some o) = (o.goal ≡ goal) × (o.from_era ≡ era)

still_of : (goal : RegisterFile) (era : ℕ) (o : Order) (b : Bool) → (o.goal ≡ goal) × (o.from_era ≡ era) → IsOf goal era (if b then None else Some o)
still_of goal era o true h = tt
still_of goal era o false h = h

pub order_on : (goal : RegisterFile) (era : ℕ) (e : MachineEvent) (s : System) (v : Option Order) → not (is_call e) ≡ true → IsOf goal era v → IsOf goal era (next (machine s v) e).order
order_on goal era (Accesses k op) s v quiet h = h
order_on goal era (Controls k c) s v quiet h = h
order_on goal era (Calls other) s v quiet h = absurd (cc quiet)
order_on goal era Goes s None quiet h = tt
order_on goal era Goes s (Some o) quiet h = still_of goal era (record o { go = Given }) (is_over (record o { go = Given }) s.processors) h
order_on goal era Cancels s None quiet h = tt
order_on goal era Cancels s (Some o) quiet h = still_of goal era (record o { go = Cancelled }) (is_over (record o { go = Cancelled }) s.processors) h
order_on goal era (Steps k e) s None quiet h = tt
order_on goal era (Steps k e) s (Some o) quiet h = still_of goal era o (is_over o (step o.goal e k s).processors) h

-- ---- the first barrier

abbrev pub is_past : ℕ → Stage → Bool
is_past era x = is_changing x.0 || is_arrived_again x.0 || nat_lt era x.1

abbrev pub NoneIsPast : ℕ → List Stage → Type 0
NoneIsPast era vs = (i : ℕ) (x : Stage) → At vs i x → is_past era x ≡ false

-- while an update to this goal is under way no processor has passed
abbrev pub Waits : RegisterFile → ℕ → System → Option Order → Type 0
Waits goal era s None = Unit {0}
Waits goal era s (Some o) = (o.goal ≡ goal) × (o.from_era ≡ era) × NoneIsPast era (stages s)

pub order_of : (goal : RegisterFile) (era : ℕ) (s : System) (v : Option Order) → Waits goal era s v → IsOf goal era v
order_of goal era s None h = tt
order_of goal era s (Some o) h = (h.0, h.1)

none_set : (vs : List Stage) (era k : ℕ) (y : Stage) → NoneIsPast era vs → is_past era y ≡ false → NoneIsPast era (set vs k y)
none_set [] era k y none is i x there = absurd (cc there)
none_set (v ∷ vs) era zero y none is zero x there = let same : y ≡ x = cc there in ap (is_past era) (sym same) ∙ is
none_set (v ∷ vs) era zero y none is (suc i) x there = none (suc i) x there
none_set (v ∷ vs) era (suc k) y none is zero x there = none 0 x there
none_set (v ∷ vs) era (suc k) y none is (suc i) x there = none_set vs era k y (λ j z at. none (suc j) z at) is i x there

module _ (o : Order) (ps : List Processor) (p : Processor) (w : Event) where
  low : (v : Event) → w ≡ v → is_past o.from_era (stage_of (own_step o.goal v p)) ≡ false → is_past o.from_era (stage_of (own_step o.goal w p)) ≡ false
  low v same is = ap (λ (u : Event). is_past o.from_era (stage_of (own_step o.goal u p))) same ∙ is

  -- but for the pass no event leads past the barrier
  not_past : (ph : Phase) → is_past o.from_era (ph, p.era) ≡ false → due o ps p ph ≡ Some w → (w ≡ Pass → ⊥) → is_past o.from_era (stage_of (own_step o.goal w p)) ≡ false
  not_past Running behind is other = one (p.era == o.from_era) (is_cancelled o.go) is
    where
      one : (a c : Bool) → (if a && not c then Some Take else None) ≡ Some w → is_past o.from_era (stage_of (own_step o.goal w p)) ≡ false
      one false c g = absurd (cc g)
      one true true g = absurd (cc g)
      one true false g = let take : Take ≡ w = cc g in low Take (sym take) behind
  not_past Taken behind is other = one (is_cancelled o.go) is
    where
      one : (c : Bool) → Some (if c then Leave else Arrive) ≡ Some w → is_past o.from_era (stage_of (own_step o.goal w p)) ≡ false
      one true g = let leave : Leave ≡ w = cc g in low Leave (sym leave) behind
      one false g = let arrive : Arrive ≡ w = cc g in low Arrive (sym arrive) behind
  not_past Arrived behind is other = one (is_cancelled o.go) (first_barrier_open o ps) is
    where
      one : (c f : Bool) → (if c then Some Leave else (if f then Some Pass else None)) ≡ Some w → is_past o.from_era (stage_of (own_step o.goal w p)) ≡ false
      one true f g = let leave : Leave ≡ w = cc g in low Leave (sym leave) behind
      one false true g = let pass : Pass ≡ w = cc g in absurd (other (sym pass))
      one false false g = absurd (cc g)
  not_past Arrived2 behind is other = absurd (cc behind)
  not_past ph behind is other = absurd (cc behind)

  -- and none releases there
  not_release : (ph : Phase) → is_past o.from_era (ph, p.era) ≡ false → due o ps p ph ≡ Some w → w ≡ Release → ⊥
  not_release Running behind is release = one (p.era == o.from_era) (is_cancelled o.go) is
    where
      one : (a c : Bool) → (if a && not c then Some Take else None) ≡ Some w → ⊥
      one false c g = cc g
      one true true g = cc g
      one true false g = cc (g, release)
  not_release Taken behind is release = one (is_cancelled o.go) is
    where
      one : (c : Bool) → Some (if c then Leave else Arrive) ≡ Some w → ⊥
      one true g = cc (g, release)
      one false g = cc (g, release)
  not_release Arrived behind is release = one (is_cancelled o.go) (first_barrier_open o ps) is
    where
      one : (c f : Bool) → (if c then Some Leave else (if f then Some Pass else None)) ≡ Some w → ⊥
      one true f g = cc (g, release)
      one false true g = cc (g, release)
      one false false g = cc g
  not_release Arrived2 behind is release = cc behind
  not_release ph behind is release = cc behind

still_waits : (goal : RegisterFile) (era : ℕ) (s : System) (o : Order) (b : Bool) → (o.goal ≡ goal) × (o.from_era ≡ era) × NoneIsPast era (stages s) → Waits goal era s (if b then None else Some o)
still_waits goal era s o true h = tt
still_waits goal era s o false h = h

pub waits_on : (goal : RegisterFile) (era : ℕ) (e : MachineEvent) (s : System) (v : Option Order) → IsEnabled (machine s v) e → not (is_call e) ≡ true → ((k : ℕ) → e ≡ Steps k Pass → ⊥) → Waits goal era s v
    → Waits goal era (next (machine s v) e).system (next (machine s v) e).order
waits_on goal era (Accesses k op) s None enabled quiet pass h = tt
waits_on goal era (Accesses k op) s (Some o) enabled quiet pass h = (h.0, h.1, subst (NoneIsPast era) (sym (access_stages s k op)) h.2)
waits_on goal era (Controls k c) s None enabled quiet pass h = tt
waits_on goal era (Controls k c) s (Some o) enabled quiet pass h = (h.0, h.1, subst (NoneIsPast era) (sym (control_stages s k c)) h.2)
waits_on goal era (Calls other) s v enabled quiet pass h = absurd (cc quiet)
waits_on goal era Goes s None enabled quiet pass h = tt
waits_on goal era Goes s (Some o) enabled quiet pass h = still_waits goal era s (record o { go = Given }) (is_over (record o { go = Given }) s.processors) h
waits_on goal era Cancels s None enabled quiet pass h = tt
waits_on goal era Cancels s (Some o) enabled quiet pass h = still_waits goal era s (record o { go = Cancelled }) (is_over (record o { go = Cancelled }) s.processors) h
waits_on goal era (Steps k w) s None enabled quiet pass h = tt
waits_on goal era (Steps k w) s (Some o) enabled quiet pass h = one (slice_get s.processors k) refl enabled
  where
    one : (q : Option Processor) → slice_get s.processors k ≡ q → option_map_or (λ p. due o s.processors p p.phase) q None ≡ Some w
        → Waits goal era (step o.goal w k s) (if is_over o (step o.goal w k s).processors then None else Some o)
    one None at is = absurd (cc is)
    one (Some p) at is =
        let behind : is_past o.from_era (p.phase, p.era) ≡ false = subst (λ (n : ℕ). is_past n (stage_of p) ≡ false) (sym h.1) (h.2 k (stage_of p) (stage_at s.processors k p at)) in
        let after : is_past era (stage_of (own_step o.goal w p)) ≡ false =
        subst (λ (n : ℕ). is_past n (stage_of (own_step o.goal w p)) ≡ false) h.1 (not_past o s.processors p w p.phase behind is (λ same. pass k (ap (Steps k) same))) in
        still_waits goal era (step o.goal w k s) o (is_over o (step o.goal w k s).processors)
        (h.0, h.1, subst (NoneIsPast era) (sym (step_stages o.goal w k s p at)) (none_set (stages s) era k (stage_of (own_step o.goal w p)) h.2 after))

-- so none releases before one has passed
pub none_releases : (goal : RegisterFile) (era k : ℕ) (s : System) (v : Option Order) → Waits goal era s v → IsEnabled (machine s v) (Steps k Release) → ⊥
none_releases goal era k s None h enabled = cc enabled
none_releases goal era k s (Some o) h enabled = one (slice_get s.processors k) refl enabled
  where
    one : (q : Option Processor) → slice_get s.processors k ≡ q → option_map_or (λ p. due o s.processors p p.phase) q None ≡ Some Release → ⊥
    one None at is = cc is
    one (Some p) at is =
        let behind : is_past o.from_era (p.phase, p.era) ≡ false = subst (λ (n : ℕ). is_past n (stage_of p) ≡ false) (sym h.1) (h.2 k (stage_of p) (stage_at s.processors k p at)) in
        not_release o s.processors p Release p.phase behind is refl

-- ---- at the call, and at the pass

runs_behind : (ph : Phase) (era own : ℕ) → is_running ph ≡ true → own ≡ era → is_past era (ph, own) ≡ false
runs_behind Running era own runs same = le-ltb era own (omega (arith, same))
runs_behind other era own runs same = absurd (cc runs)

-- where the call came none has passed
pub waits_at_call : (m : Machine) (goal : RegisterFile) → IsQuiet m → Waits goal (common_era m.system.processors) (next m (Calls goal)).system (next m (Calls goal)).order
waits_at_call m goal quiet = (
  refl,
  refl,
  λ i x at.
      let found = processor_at m.system.processors i x at in
      subst (λ (v : Stage). is_past (common_era m.system.processors) v ≡ false) found.2
      (runs_behind found.0.phase (common_era m.system.processors) found.0.era
      (all_get (λ p. is_running p.phase ≡ true) m.system.processors quiet.running i found.0 found.1)
      (all_get (λ p. p.era ≡ common_era m.system.processors) m.system.processors quiet.one_era i found.0 found.1)),
)

pub none_has_passed : (goal : RegisterFile) (era : ℕ) (s : System) (o : Order) → Waits goal era s (Some o) → All (λ q. has_passed o q ≡ false) s.processors
none_has_passed goal era s o h =
    all_of (λ q. has_passed o q ≡ false) s.processors
    (λ i q at. subst (λ (n : ℕ). is_past n (stage_of q) ≡ false) (sym h.1) (h.2 i (stage_of q) (stage_at s.processors i q at)))
