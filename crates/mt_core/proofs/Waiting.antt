-- A step waits exactly at a barrier whose count is not full.
use Rattle.std.proofs.Common.{◌≡◌, ◌⊎◌, ◌∙◌, ap, sym, refl, subst, arith, ◌≤◌, ⊎_elim, inl, inr, Bool, true, false, List, Option, None, Some, slice_get, lit≤}
use Rattle.std.specs.Prelude.{if◌then◌else◌}
use Rattle.std.specs.Option.{option_map_or}
use Rattle.std.proofs.lemmas.List.Sums.{count_by-le-length}
use Rattle.mt_machine.specs.declared.phase.Phase.{Phase}
use Rattle.mt_machine.specs.declared.phase.Phase.TheVariants.{Running, Arrived, Arrived2}
use Rattle.mt_machine.specs.declared.event.Event.TheVariants.{Leave, Pass, Release, Take}
use Rattle.mt_machine.specs.System.{Processor, System}
use Rattle.mt_machine.specs.Machine.{BarrierCount, Order, due, first_barrier_count, first_barrier_open, has_arrived, has_arrived_again, is_cancelled, is_given, second_barrier_count, second_barrier_open}
use Rattle.mt_laws.specs.Barriers.{IsFull}
use Rattle.mt_laws.proofs.Barrier.Counts.{open_where_full}
use Rattle.mt_core.specs.declared.stepped.Stepped.TheVariants.{Did, NoUpdate, Waits}
use Rattle.mt_core.specs.Headline.{IsBelowFull, WaitsAtBarriers, WaitsFor}
use Rattle.mt_core.specs.Steps.{pause, step_answer, under_way}
use Rattle.mt_core.proofs.Arising.{machine}
use Rattle.mt_core.proofs.Stopping.{answer}

not_true : (b : Bool) → (b ≡ true → ⊥) → b ≡ false
not_true true h = absurd (h refl)
not_true false h = refl

one_at_most : (b : Bool) → (if b then 1 else 0) ≤ 1
one_at_most true = lit≤ tt
one_at_most false = lit≤ tt

below : (c : BarrierCount) → c.arrived ≤ c.awaited → (IsFull c → ⊥) → IsBelowFull c
below c most short = omega (arith, most, short)

above : (c : BarrierCount) → IsBelowFull c → IsFull c → ⊥
above c low full = omega arith

module _ (o : Order) (ps : List Processor) where
  first_most : (first_barrier_count o ps).arrived ≤ (first_barrier_count o ps).awaited
  first_most =
      let a = count_by-le-length (has_arrived o) ps in
      let b = one_at_most (is_given o.go) in
      omega arith

  first_below : first_barrier_open o ps ≡ false → IsBelowFull (first_barrier_count o ps)
  first_below shut = below (first_barrier_count o ps) first_most (λ full. let opened : first_barrier_open o ps ≡ true = (open_where_full o ps).1 full in cc)

  second_below : second_barrier_open o ps ≡ false → IsBelowFull (second_barrier_count o ps)
  second_below shut = below (second_barrier_count o ps) (count_by-le-length (has_arrived_again o) ps) (λ full. let opened : second_barrier_open o ps ≡ true = (open_where_full o ps).3 full in cc)

  first_shut : IsBelowFull (first_barrier_count o ps) → first_barrier_open o ps ≡ false
  first_shut low = not_true (first_barrier_open o ps) (λ opened. above (first_barrier_count o ps) low ((open_where_full o ps).0 opened))

  second_shut : IsBelowFull (second_barrier_count o ps) → second_barrier_open o ps ≡ false
  second_shut low = not_true (second_barrier_open o ps) (λ opened. above (second_barrier_count o ps) low ((open_where_full o ps).2 opened))

  module _ (p : Processor) (c : BarrierCount) where
    abbrev For : Phase → Type 0
    For ph =
        ((ph ≡ Arrived) × (is_cancelled o.go ≡ false) × (c ≡ first_barrier_count o ps) × IsBelowFull c)
        ⊎ ((ph ≡ Arrived2) × (c ≡ second_barrier_count o ps) × IsBelowFull c)

    same_count : (d : BarrierCount) → Waits d.arrived d.awaited ≡ Waits c.arrived c.awaited → c ≡ d
    same_count d h =
        let a : c.arrived ≡ d.arrived = cc in
        let b : c.awaited ≡ d.awaited = cc in
        λ i. record { arrived = a i; awaited = b i }

    runs : (b : Bool) → option_map_or Did (if b then Some Take else None) NoUpdate ≡ Waits c.arrived c.awaited → ⊥
    runs true h = cc
    runs false h = cc

    at_first : (cancelled opened : Bool) → is_cancelled o.go ≡ cancelled → first_barrier_open o ps ≡ opened
        → option_map_or Did (if cancelled then Some Leave else (if opened then Some Pass else None)) (option_map_or (λ d. Waits d.arrived d.awaited) (if cancelled then None else Some (first_barrier_count o ps)) NoUpdate) ≡ Waits c.arrived c.awaited
        → For Arrived
    at_first true opened go is h = absurd (cc)
    at_first false true go is h = absurd (cc)
    at_first false false go is h =
        let same = same_count (first_barrier_count o ps) h in
        inl (refl, go, same, subst IsBelowFull (sym same) (first_below is))

    at_second : (opened : Bool) → second_barrier_open o ps ≡ opened
        → option_map_or Did (if opened then Some Release else None) (Waits (second_barrier_count o ps).arrived (second_barrier_count o ps).awaited) ≡ Waits c.arrived c.awaited
        → For Arrived2
    at_second true is h = absurd (cc)
    at_second false is h =
        let same = same_count (second_barrier_count o ps) h in
        inr (refl, same, subst IsBelowFull (sym same) (second_below is))

    out : (ph : Phase) → answer o ps p ph ≡ Waits c.arrived c.awaited → For ph
    out Running h = absurd (runs _ h)
    out Arrived h = at_first (is_cancelled o.go) (first_barrier_open o ps) refl refl h
    out Arrived2 h = at_second (second_barrier_open o ps) refl h
    out other h = absurd (cc)

    waits_first : (cancelled opened : Bool) → cancelled ≡ false → opened ≡ false
        → option_map_or Did (if cancelled then Some Leave else (if opened then Some Pass else None)) (option_map_or (λ d. Waits d.arrived d.awaited) (if cancelled then None else Some (first_barrier_count o ps)) NoUpdate)
        ≡ Waits (first_barrier_count o ps).arrived (first_barrier_count o ps).awaited
    waits_first true opened go is = absurd (cc)
    waits_first false true go is = absurd (cc)
    waits_first false false go is = refl

    waits_second : (opened : Bool) → opened ≡ false
        → option_map_or Did (if opened then Some Release else None) (Waits (second_barrier_count o ps).arrived (second_barrier_count o ps).awaited)
        ≡ Waits (second_barrier_count o ps).arrived (second_barrier_count o ps).awaited
    waits_second true is = absurd (cc)
    waits_second false is = refl

    back : (ph : Phase) → For ph → answer o ps p ph ≡ Waits c.arrived c.awaited
    back ph =
        ⊎_elim
        (λ (h : (ph ≡ Arrived) × (is_cancelled o.go ≡ false) × (c ≡ first_barrier_count o ps) × IsBelowFull c).
        ap (answer o ps p) h.0 ∙ waits_first (is_cancelled o.go) (first_barrier_open o ps) h.1 (first_shut (subst IsBelowFull h.2 h.3))
        ∙ ap (λ (d : BarrierCount). Waits d.arrived d.awaited) (sym h.2))
        (λ (h : (ph ≡ Arrived2) × (c ≡ second_barrier_count o ps) × IsBelowFull c).
        ap (answer o ps p) h.0 ∙ waits_second (second_barrier_open o ps) (second_shut (subst IsBelowFull h.1 h.2))
        ∙ ap (λ (d : BarrierCount). Waits d.arrived d.awaited) (sym h.1))

pub waits_at_barriers : WaitsAtBarriers
waits_at_barriers m k p c at = one m.system m.order at
  where
    one : (s : System) (x : Option Order) → slice_get s.processors k ≡ Some p
        → (step_answer (machine s x) k ≡ Waits c.arrived c.awaited → (o : Order) × (x ≡ Some o) × WaitsFor o s.processors p c)
        × ((o : Order) → x ≡ Some o → WaitsFor o s.processors p c → step_answer (machine s x) k ≡ Waits c.arrived c.awaited)
    one s None at = ((λ h. absurd (cc)), (λ o is w. absurd (cc)))
    one s (Some o) at =
        let same : step_answer (under_way o s) k ≡ answer o s.processors p p.phase =
        ap (λ (x : Option Processor). option_map_or Did (option_map_or (λ q. due o s.processors q q.phase) x None) (option_map_or (λ q. pause o s.processors q.phase) x NoUpdate)) at in (
          (λ h. (o, refl, out o s.processors p c p.phase (sym same ∙ h))),
          (λ v is w. let order : o ≡ v = cc in same ∙ back o s.processors p c p.phase (subst (λ (x : Order). WaitsFor x s.processors p c) (sym order) w)),
        )
