-- A step answers NoUpdate exactly where the processor runs outside an update.
use Rattle.std.proofs.Common.{◌≡◌, ◌⊎◌, ◌∙◌, ap, sym, refl, arith, ℕ, ◌+◌, ◌==◌, ⊎_elim, Bool, true, false, List, Option, None, Some, slice_get}
use Rattle.std.specs.Prelude.{not, ◌&&◌, ◌||◌, if◌then◌else◌}
use Rattle.std.specs.Option.{option_map_or}
use Rattle.std.proofs.lemmas.Bool.{eq-eqb, eqb-true, lt-ltb, ltb-true}
use Rattle.mt_machine.specs.declared.phase.Phase.{Phase}
use Rattle.mt_machine.specs.declared.phase.Phase.TheVariants.{Running, Arrived, Arrived2}
use Rattle.mt_machine.specs.declared.event.Event.{Event}
use Rattle.mt_machine.specs.declared.event.Event.TheVariants.{Leave, Pass, Release, Take}
use Rattle.mt_machine.specs.System.{Processor, System}
use Rattle.mt_machine.specs.Access.{is_running}
use Rattle.mt_machine.specs.Machine.{BarrierCount, Order, due, first_barrier_count, first_barrier_open, has_released, is_cancelled, second_barrier_open}
use Rattle.mt_laws.proofs.Barrier.Barriers.{Rest}
use Rattle.mt_laws.proofs.Barrier.Ranks.{Guarded, stage_at}
use Rattle.mt_laws.proofs.Barrier.Stages.{stage_of, stages}
use Rattle.mt_core.specs.declared.stepped.Stepped.{Stepped}
use Rattle.mt_core.specs.declared.stepped.Stepped.TheVariants.{Did, NoUpdate, Waits}
use Rattle.mt_core.specs.Arises.{Arises}
use Rattle.mt_core.specs.Steps.{pause, step_answer, under_way}
use Rattle.mt_core.specs.Stops.{StopsOutside}
use Rattle.mt_core.proofs.Stepping.{stands}

abbrev Outside : Order → Processor → Type 0
Outside o p = (is_cancelled o.go || has_released o p) ≡ true

abbrev pub answer : Order → List Processor → Processor → Phase → Stepped
answer o ps p ph = option_map_or Did (due o ps p ph) (pause o ps ph)

module _ (o : Order) (ps : List Processor) (p : Processor) (eras : (p.era ≡ o.from_era) ⊎ (p.era ≡ o.from_era + 1)) where
  pub ahead : (p.era == o.from_era) ≡ false → has_released o p ≡ true
  ahead h =
      ⊎_elim (λ (g : p.era ≡ o.from_era). absurd (let e : (p.era == o.from_era) ≡ true = ap (λ n. n == o.from_era) g ∙ eq-eqb o.from_era o.from_era refl in cc))
      (λ (g : p.era ≡ o.from_era + 1). lt-ltb o.from_era p.era (omega arith)) eras

  runs_out : (same cancelled : Bool) → (p.era == o.from_era) ≡ same → is_cancelled o.go ≡ cancelled
      → option_map_or Did (if same && not cancelled then Some Take else None) NoUpdate ≡ NoUpdate → (cancelled || has_released o p) ≡ true
  runs_out true true at is h = refl
  runs_out true false at is h = absurd (cc)
  runs_out false true at is h = refl
  runs_out false false at is h = ahead at

  waits : (b : Bool) (e : Event) (n m : ℕ) → option_map_or Did (if b then Some e else None) (Waits n m) ≡ NoUpdate → ⊥
  waits true e n m h = cc
  waits false e n m h = cc

  rests : (cancelled full : Bool) (c : BarrierCount)
      → option_map_or Did (if cancelled then Some Leave else (if full then Some Pass else None)) (option_map_or (λ c. Waits c.arrived c.awaited) (if cancelled then None else Some c) NoUpdate) ≡ NoUpdate → ⊥
  rests true full c h = cc
  rests false true c h = cc
  rests false false c h = cc

  out : (ph : Phase) → answer o ps p ph ≡ NoUpdate → (is_running ph ≡ true) × Outside o p
  out Running h = (refl, runs_out (p.era == o.from_era) (is_cancelled o.go) refl refl h)
  out Arrived h = absurd (rests (is_cancelled o.go) (first_barrier_open o ps) (first_barrier_count o ps) h)
  out Arrived2 h = absurd (waits (second_barrier_open o ps) Release _ _ h)
  out other h = absurd (cc)

  stays : (same cancelled : Bool) → (p.era == o.from_era) ≡ same → (cancelled || has_released o p) ≡ true
      → option_map_or Did (if same && not cancelled then Some Take else None) NoUpdate ≡ NoUpdate
  stays true true at h = refl
  stays false cancelled at h = refl
  stays true false same h = absurd (let low = ltb-true o.from_era p.era h in let era : p.era ≡ o.from_era = eqb-true p.era o.from_era same in omega arith)

  back : (ph : Phase) → is_running ph ≡ true → Outside o p → answer o ps p ph ≡ NoUpdate
  back Running r h = stays (p.era == o.from_era) (is_cancelled o.go) refl h
  back other r h = absurd (cc)

pub stops_outside : StopsOutside
stops_outside m k p a at = one m.system m.order a at
  where
    one : (s : System) (x : Option Order) → Arises (record { system = s; order = x }) → slice_get s.processors k ≡ Some p
        → (step_answer (record { system = s; order = x }) k ≡ NoUpdate → (is_running p.phase ≡ true) × (option_map_or (λ o. is_cancelled o.go || has_released o p) x true ≡ true))
        × (is_running p.phase ≡ true → option_map_or (λ o. is_cancelled o.go || has_released o p) x true ≡ true → step_answer (record { system = s; order = x }) k ≡ NoUpdate)
    one s None b at =
        let rest : Rest (stages s) = (stands b).1.kept.0 in
        ((λ h. (rest.running k (stage_of p) (stage_at s.processors k p at), refl)), (λ r h. refl))
    one s (Some o) b at =
        let guarded : Guarded o (stages s) = (stands b).1.kept.0 in
        let eras = guarded.eras k (stage_of p) (stage_at s.processors k p at) in
        let same : step_answer (under_way o s) k ≡ answer o s.processors p p.phase =
        ap (λ (x : Option Processor). option_map_or Did (option_map_or (λ q. due o s.processors q q.phase) x None) (option_map_or (λ q. pause o s.processors q.phase) x NoUpdate)) at in
        ((λ h. out o s.processors p eras p.phase (sym same ∙ h)), (λ r h. same ∙ back o s.processors p eras p.phase r h))
