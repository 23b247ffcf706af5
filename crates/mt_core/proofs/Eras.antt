-- No event raises a processor's era by more than one.
use Rattle.std.proofs.Common.{◌≡◌, ℕ, ◌+◌, ◌≤◌, List, length, Option, None, Some, slice_get, ap, refl, subst, arith, ⊎_elim}
use Rattle.std.specs.Option.{option_map_or}
use Rattle.mt_regs.specs.RegisterFile.{RegisterFile}
use Rattle.mt_machine.specs.declared.event.Event.{Event}
use Rattle.mt_machine.specs.declared.event.Event.TheVariants.{FlushTlb, Release}
use Rattle.mt_machine.specs.System.{Processor, System}
use Rattle.mt_machine.specs.Access.{access}
use Rattle.mt_machine.specs.Control.{control}
use Rattle.mt_machine.specs.Machine.{Accesses, Calls, Cancels, Controls, Goes, IsEnabled, MachineEvent, Order, Steps, due, next, own_step, step}
use Rattle.mt_laws.proofs.Barrier.Barriers.{flush_era, step_stages}
use Rattle.mt_laws.proofs.Barrier.Ranks.{At, at_set, stage_at}
use Rattle.mt_laws.proofs.Barrier.Stages.{Stage, access_stages, control_stages, stage_of, stages}
use Rattle.mt_laws.proofs.Clearing.Late.{at_same}
use Rattle.mt_core.specs.Headline.{ErasRise, HasRisenByOne}
use Rattle.mt_bus.proofs.Tables.{same_length}
use Rattle.mt_core.proofs.Arising.{machine, step_length}

own_rise : (goal : RegisterFile) (e : Event) (p : Processor) → (own_step goal e p).era ≤ p.era + 1
own_rise goal Release p = omega arith
own_rise goal FlushTlb p = let same = flush_era p.phase p in omega arith
own_rise goal other p = omega arith

rises_by_stages : (s t : System) → length t.processors ≡ length s.processors → ((i : ℕ) (x y : Stage) → At (stages s) i x → At (stages t) i y → y.1 ≤ x.1 + 1) → HasRisenByOne s t
rises_by_stages s t same rise = record {
  same_number = same;
  eras = λ k p q at_p at_q. rise k (stage_of p) (stage_of q) (stage_at s.processors k p at_p) (stage_at t.processors k q at_q);
}

rests : (s t : System) → stages t ≡ stages s → HasRisenByOne s t
rests s t same =
    rises_by_stages s t (same_length s t same)
    (λ i x y at_x at_y. let equal : x ≡ y = at_same (stages s) i x y at_x (subst (λ (vs : List Stage). At vs i y) same at_y) in
    let era : x.1 ≡ y.1 = ap (λ (z : Stage). z.1) equal in omega arith)

steps : (goal : RegisterFile) (e : Event) (k : ℕ) (s : System) (p : Processor) → slice_get s.processors k ≡ Some p → HasRisenByOne s (step goal e k s)
steps goal e k s p at =
    rises_by_stages s (step goal e k s) (step_length goal e k s p at)
    (λ i x y at_x at_y. ⊎_elim
    (λ (own : (i ≡ k) × (stage_of (own_step goal e p) ≡ y)).
    let here : x ≡ stage_of p = at_same (stages s) k x (stage_of p) (subst (λ (j : ℕ). At (stages s) j x) own.0 at_x) (stage_at s.processors k p at) in
    let was : x.1 ≡ p.era = ap (λ (z : Stage). z.1) here in
    let is : (own_step goal e p).era ≡ y.1 = ap (λ (z : Stage). z.1) own.1 in
    let rise = own_rise goal e p in
    omega arith)
    (λ (other : At (stages s) i y). let equal : x ≡ y = at_same (stages s) i x y at_x other in
    let era : x.1 ≡ y.1 = ap (λ (z : Stage). z.1) equal in omega arith)
    (at_set (stages s) k i (stage_of (own_step goal e p)) y (subst (λ (vs : List Stage). At vs i y) (step_stages goal e k s p at) at_y)))

rise : (e : MachineEvent) (s : System) (o : Option Order) → IsEnabled (machine s o) e → HasRisenByOne s (next (machine s o) e).system
rise (Accesses k op) s o enabled = rests s (access s k op).after (access_stages s k op)
rise (Controls k c) s o enabled = rests s (control s k c).after (control_stages s k c)
rise (Calls goal) s o enabled = rests s s refl
rise Goes s None enabled = rests s s refl
rise Goes s (Some o) enabled = rests s s refl
rise Cancels s None enabled = rests s s refl
rise Cancels s (Some o) enabled = rests s s refl
rise (Steps k e) s None enabled = rests s s refl
rise (Steps k e) s (Some o) enabled = one (slice_get s.processors k) refl enabled
  where
    one : (x : Option Processor) → slice_get s.processors k ≡ x → option_map_or (λ p. due o s.processors p p.phase) x None ≡ Some e → HasRisenByOne s (step o.goal e k s)
    one None at g = absurd (cc)
    one (Some p) at g = steps o.goal e k s p at

pub eras_rise : ErasRise
eras_rise m e enabled = rise e m.system m.order enabled
