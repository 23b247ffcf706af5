-- Eras fit 64 bits where each update is called while they have room.
use Rattle.std.proofs.Common.{◌≡◌, ℕ, ◌+◌, ◌-◌, ◌<◌, ◌^◌, List, [], ◌∷◌, get_or, Some, None, Option, Bool, true, false, refl, sym, ap, subst, arith, ⊎_elim}
use Rattle.std.specs.Prelude.{slice_get, if◌then◌else◌}
use Rattle.std.specs.List.{All}
use Rattle.std.specs.Option.{option_map_or}
use Rattle.std.proofs.lemmas.Option.{slice_get-get_or}
use Rattle.mt_machine.specs.declared.go.Go.TheVariants.{Given, Cancelled}
use Rattle.mt_machine.specs.System.{Processor, System}
use Rattle.mt_machine.specs.Access.{access}
use Rattle.mt_machine.specs.Control.{control}
use Rattle.mt_machine.specs.Machine.{Order, MachineEvent, Accesses, Controls, Calls, Goes, Cancels, Steps, IsEnabled, next, due, step, common_era, is_over, remaining_order}
use Rattle.mt_machine.specs.Update.{is_call}
use Rattle.mt_laws.specs.Starts.{HasEras, ErasFit}
use Rattle.mt_laws.proofs.Barrier.Stages.{Stage, stage_of, stages, access_stages, control_stages}
use Rattle.mt_laws.proofs.Barrier.Ranks.{At, Guarded, stage_at, processor_at}
use Rattle.mt_laws.proofs.Barrier.Barriers.{Kept, step_guarded, reached_keeps}
use Rattle.mt_laws.proofs.Barrier.Claims.{all_get, start_invariant}

abbrev Below : ℕ → List Stage → Type 0
Below top vs = (i : ℕ) (x : Stage) → At vs i x → x.1 < top

below_all : (top : ℕ) (ps : List Processor) → ((i : ℕ) (p : Processor) → slice_get ps i ≡ Some p → p.era < top) → All (λ p. p.era < top) ps
below_all top ps h k d within = h k (get_or ps k d) (slice_get-get_or ps k d within)

each_below : (top : ℕ) (s : System) → Below top (stages s) → All (λ p. p.era < top) s.processors
each_below top s h = below_all top s.processors (λ i p at. h i (stage_of p) (stage_at s.processors i p at))

stages_below : (top : ℕ) (s : System) → All (λ p. p.era < top) s.processors → Below top (stages s)
stages_below top s h i x at =
    let found = processor_at s.processors i x at in
    subst (λ (y : Stage). y.1 < top) found.2 (all_get (λ p. p.era < top) s.processors h i found.0 found.1)

order_stays : (bound : ℕ) (o : Order) (ps : List Processor) → o.from_era < bound → (o' : Order) → remaining_order o ps ≡ Some o' → o'.from_era < bound
order_stays bound o ps low o' h = one (is_over o ps) h
  where
    one : (b : Bool) → (if b then None else Some o) ≡ Some o' → o'.from_era < bound
    one true g = absurd (cc)
    one false g = let e : o ≡ o' = cc in subst (λ (x : Order). x.from_era < bound) e low

guarded_below : (o : Order) (vs : List Stage) → Guarded o vs → o.from_era < 2 ^ 64 - 1 → Below (2 ^ 64) vs
guarded_below o vs g low i x at = ⊎_elim (λ (e : x.1 ≡ o.from_era). omega arith) (λ (e : x.1 ≡ o.from_era + 1). omega arith) (g.eras i x at)

common_below : (ps : List Processor) → All (λ p. p.era < 2 ^ 64 - 1) ps → common_era ps < 2 ^ 64 - 1
common_below [] h = omega arith
common_below (p ∷ ps) h = h 0 p (omega arith)

fits_next : (e : MachineEvent) (s : System) (v : Option Order) → Kept v (stages s) → HasEras (record { system = s; order = v }) → IsEnabled (record { system = s; order = v }) e → (is_call e ≡ true → All (λ p. p.era < 2 ^ 64 - 1) s.processors)
    → HasEras (next (record { system = s; order = v }) e)
fits_next (Accesses k op) s v kept h enabled room = record {
  each = each_below (2 ^ 64) (access s k op).after (subst (Below (2 ^ 64)) (sym (access_stages s k op)) (stages_below (2 ^ 64) s h.each));
  order = h.order;
}
fits_next (Controls k c) s v kept h enabled room = record {
  each = each_below (2 ^ 64) (control s k c).after (subst (Below (2 ^ 64)) (sym (control_stages s k c)) (stages_below (2 ^ 64) s h.each));
  order = h.order;
}
fits_next (Calls goal) s v kept h enabled room = record {
  each = h.each;
  order = λ o is. let low = common_below s.processors (room refl) in
      let same : common_era s.processors ≡ o.from_era = ap (λ (x : Option Order). option_map_or (λ y. y.from_era) x 0) is in
      subst (λ n. n < 2 ^ 64 - 1) same low;
}
fits_next Goes s None kept h enabled room = absurd (cc)
fits_next Goes s (Some o) kept h enabled room = record { each = h.each; order = order_stays (2 ^ 64 - 1) (record o { go = Given }) s.processors (h.order o refl) }
fits_next Cancels s None kept h enabled room = absurd (cc)
fits_next Cancels s (Some o) kept h enabled room = record { each = h.each; order = order_stays (2 ^ 64 - 1) (record o { go = Cancelled }) s.processors (h.order o refl) }
fits_next (Steps k w) s None kept h enabled room = absurd (cc)
fits_next (Steps k w) s (Some o) kept h enabled room = one (slice_get s.processors k) refl enabled
  where
    one : (x : Option Processor) → slice_get s.processors k ≡ x → option_map_or (λ p. due o s.processors p p.phase) x None ≡ Some w → HasEras (next (record { system = s; order = Some o }) (Steps k w))
    one None at g = absurd (cc)
    one (Some p) at g = record {
      each = each_below (2 ^ 64) (step o.goal w k s) (guarded_below o (stages (step o.goal w k s)) (step_guarded o w k s p at g kept) (h.order o refl));
      order = order_stays (2 ^ 64 - 1) o (step o.goal w k s).processors (h.order o refl);
    }

pub eras_fit : ErasFit
eras_fit s m e start r h enabled room = fits_next e m.system m.order (reached_keeps r (start_invariant s start)) h enabled room
