-- A step of the books as events of the machine: one, or the write-backs of a cache and the invalidation that ends them.
use Rattle.std.proofs.Common.{◌≡◌, ◌⊎◌, ◌∙◌, ap, refl, sym, subst, arith, inl, inr, ⊎_elim, ℕ, ◌+◌, ◌≤◌, zero, suc, Bool, true, false, List, [], ◌∷◌, set, Option, None, Some}
use Rattle.std.specs.Prelude.{slice_get, nat_lt, not, ◌==◌, ◌&&◌, if◌then◌else◌}
use Rattle.std.specs.Option.{option_map_or}
use Rattle.std.proofs.lemmas.Bool.{eqb-true, le-ltb}
use Rattle.mt_machine.specs.declared.event.Event.{Event}
use Rattle.mt_machine.specs.declared.event.Event.TheVariants.{Take, WriteBack, DropLines, FlushTlb}
use Rattle.mt_machine.specs.declared.phase.Phase.{Phase}
use Rattle.mt_machine.specs.declared.phase.Phase.TheVariants.{Running, NoFill, Enabled}
use Rattle.mt_machine.specs.Access.{is_running}
use Rattle.mt_machine.specs.Machine.{IsEnabled, Machine, MachineEvent, Order, Reached, Steps, after, before_own, due, is_cancelled, is_over, next, own_step, remaining_order, step, write_back_or_drop}
use Rattle.mt_machine.specs.Start.{IsStart}
use Rattle.mt_machine.specs.System.{Processor, System}
use Rattle.mt_machine.specs.Update.{Led, is_led, is_release, led_on}
use Rattle.mt_machine.proofs.Rows.{back_case, due_row, first_flush_case}
use Rattle.mt_laws.proofs.Invariant.Kept.{start_aligned}
use Rattle.mt_laws.proofs.Invariant.Standing.{Standing, reached_standing, start_standing}
use Rattle.mt_laws.proofs.Steps.Counts.{is_past, left_of, one_less}
use Rattle.mt_laws.proofs.Steps.StepCounts.{ready}
use Rattle.mt_plain.specs.Due.{whole_flush}
use Rattle.mt_plain_laws.proofs.Seen.{Seen, over_seen, seen, seen_after, seen_at, seen_of, step_sees}

-- ---- lists

pub set_here : {X : Type 0} → (xs : List X) (k : ℕ) (x y : X) → slice_get xs k ≡ Some x → slice_get (set xs k y) k ≡ Some y
set_here [] k x y at = absurd (cc)
set_here (z ∷ xs) zero x y at = refl
set_here (z ∷ xs) (suc k) x y at = set_here xs k x y at

set_kept : {X : Type 0} → (xs : List X) (k : ℕ) (x : X) → slice_get xs k ≡ Some x → set xs k x ≡ xs
set_kept [] k x at = absurd (cc)
set_kept (z ∷ xs) zero x at = let same : z ≡ x = cc in ap (λ v. v ∷ xs) (sym same)
set_kept (z ∷ xs) (suc k) x at = ap (λ vs. z ∷ vs) (set_kept xs k x at)

-- ---- reached and led

abbrev pub machine : System → Option Order → Machine
machine s o = record { system = s; order = o }

pub record Along (first b m : Machine) : Type 0 where
  pub reached : Reached first m
  pub led : Led b m

pub grow : (first b m : Machine) (e : MachineEvent) → IsEnabled m e → is_led e ≡ true → Along first b m → Along first b (next m e)
grow first b m e enabled is a = record { reached = after e a.reached enabled; led = led_on e a.led enabled is }

-- ---- which steps are due

-- a processor with an event that is due hasn't released
pub due_behind : (o : Order) (ps : List Processor) (p : Processor) (e : Event) → (is_running p.phase ≡ false → nat_lt o.from_era p.era ≡ false) → due o ps p p.phase ≡ Some e → nat_lt o.from_era p.era ≡ false
due_behind o ps p e in_step h = by_phase p.phase in_step h
  where
    takes : (a c : Bool) → (p.era == o.from_era) ≡ a → (if a && not c then Some Take else None) ≡ Some e → nat_lt o.from_era p.era ≡ false
    takes false c is g = absurd (cc)
    takes true true is g = absurd (cc)
    takes true false is g = let same = eqb-true p.era o.from_era is in le-ltb o.from_era p.era (omega (arith, same))

    by_phase : (ph : Phase) → (is_running ph ≡ false → nat_lt o.from_era p.era ≡ false) → due o ps p ph ≡ Some e → nat_lt o.from_era p.era ≡ false
    by_phase Running on g = takes (p.era == o.from_era) (is_cancelled o.go) refl g
    by_phase other on g = on refl

-- the processor is about to write back or to invalidate
abbrev IsDraining : Processor → Type 0
IsDraining p = ((p.phase ≡ NoFill) × (p.self_snoop ≡ false)) ⊎ (p.phase ≡ Enabled)

due_drain : (o : Order) (ps : List Processor) (p : Processor) → IsDraining p → due o ps p p.phase ≡ Some (write_back_or_drop p)
due_drain o ps p d = ⊎_elim
    (λ (n : (p.phase ≡ NoFill) × (p.self_snoop ≡ false)). ap (due o ps p) n.0 ∙ ap (λ (b : Bool). Some (if b then FlushTlb else write_back_or_drop p)) n.1)
    (λ (e : p.phase ≡ Enabled). ap (due o ps p) e)
    d

draining : (o : Order) (ps : List Processor) (p : Processor) (x v : ℕ) → due o ps p p.phase ≡ Some (WriteBack x v) → IsDraining p
draining o ps p x v h = by_phase p.phase refl h
  where
    by_phase : (ph : Phase) → p.phase ≡ ph → due o ps p ph ≡ Some (WriteBack x v) → IsDraining p
    by_phase NoFill is g = first_flush_case p (WriteBack x v) g (λ on f. absurd (cc)) (λ off f. inl (is, off))
    by_phase Enabled is g = inr is
    by_phase other is g = absurd (let row = due_row o ps p other (WriteBack x v) g in cc)

abbrev is_back : Event → Bool
is_back (WriteBack x v) = true
is_back DropLines = true
is_back other = false

-- ---- one event, and a whole flush

module _ (first b : Machine) (start : IsStart first) (o : Order) (k : ℕ) where
  -- the machine after a step, of which this is seen where the processor stands
  pub record Gone (s : System) (y : Seen) : Type 0 where
    pub system : System
    pub along : Along first b (machine system (remaining_order o system.processors))
    pub sees : seen_of system.processors ≡ set (seen_of s.processors) k y

  single : (s : System) (p : Processor) (e : Event) → Along first b (machine s (Some o)) → slice_get s.processors k ≡ Some p → due o s.processors p p.phase ≡ Some e → Gone s (seen_after e (seen p))
  single s p e a at h = record {
    system = step o.goal e k s;
    along = grow first b (machine s (Some o)) (Steps k e) (ap (λ x. option_map_or (λ q. due o s.processors q q.phase) x None) at ∙ h) refl a;
    sees = step_sees o.goal e k s p at;
  }

  falls : (s : System) (p : Processor) → Along first b (machine s (Some o)) → slice_get s.processors k ≡ Some p → IsDraining p → left_of (own_step o.goal (write_back_or_drop p) p) + 1 ≡ left_of p
  falls s p a at d =
      let ws = first.system.memory.windows in
      let aligned = start_aligned first start in
      let st : Standing ws (machine s (Some o)) = reached_standing ws aligned a.reached (start_standing first start) in
      let past : is_past p.phase ≡ true = ⊎_elim (λ (n : (p.phase ≡ NoFill) × (p.self_snoop ≡ false)). ap is_past n.0) (λ (e : p.phase ≡ Enabled). ap is_past e) d in
      let quiet : is_release (Steps 0 (write_back_or_drop p)) ≡ false = back_case (λ (e : Event). is_release (Steps 0 e) ≡ false) p (λ x v. refl) refl in
      (one_less o s.processors p (ready ws aligned k s o p at st) p.phase (write_back_or_drop p) refl past (due_drain o s.processors p d) quiet).0

  abbrev Flushes : ℕ → Type 0
  Flushes n =
      (s : System) (p : Processor) → Along first b (machine s (Some o)) → is_over o s.processors ≡ false → slice_get s.processors k ≡ Some p → IsDraining p → left_of p ≤ n
      → Gone s (seen_after DropLines (seen p))

  written : (n : ℕ) → Flushes n → (s : System) (p : Processor) (x v : ℕ) → Along first b (machine s (Some o)) → is_over o s.processors ≡ false → slice_get s.processors k ≡ Some p → IsDraining p → left_of p ≤ suc n
      → write_back_or_drop p ≡ WriteBack x v → Gone s (seen_after DropLines (seen p))
  unfolding single
  written n rest s p x v a lasts at d few is =
      let e : Event = WriteBack x v in
      let h : due o s.processors p p.phase ≡ Some e = due_drain o s.processors p d ∙ ap Some is in
      let g = single s p e a at h in
      let q : Processor = own_step o.goal e p in
      let t : System = step o.goal e k s in
      let there : t.processors ≡ set s.processors k q =
      ap (λ (y : Option Processor). (option_map_or (λ r. record (before_own e k s) { processors = set s.processors k (own_step o.goal e r) }) y (before_own e k s)).processors) at in
      let at_q : slice_get t.processors k ≡ Some q = ap (λ rs. slice_get rs k) there ∙ set_here s.processors k p q at in
      let same : seen_of t.processors ≡ seen_of s.processors = step_sees o.goal e k s p at ∙ set_kept (seen_of s.processors) k (seen p) (seen_at s.processors k p at) in
      let still : is_over o t.processors ≡ false = over_seen o s.processors t.processors same ∙ lasts in
      let on : Along first b (machine t (Some o)) = subst (λ (y : Option Order). Along first b (machine t y)) (ap (λ (c : Bool). if c then None else Some o) still) g.along in
      let less : left_of q + 1 ≡ left_of p = ap (λ (w : Event). left_of (own_step o.goal w p) + 1) (sym is) ∙ falls s p a at d in
      let fewer : left_of q ≤ n = omega (arith, less, few) in
      let end = rest t q on still at_q d fewer in
      record { system = end.system; along = end.along; sees = end.sees ∙ ap (λ xs. set xs k (seen_after DropLines (seen p))) same }

  by_event : (n : ℕ) → Flushes n → (s : System) (p : Processor) → Along first b (machine s (Some o)) → is_over o s.processors ≡ false → slice_get s.processors k ≡ Some p → IsDraining p → left_of p ≤ suc n
      → (e : Event) → write_back_or_drop p ≡ e → Gone s (seen_after DropLines (seen p))
  by_event n rest s p a lasts at d few (WriteBack x v) is = written n rest s p x v a lasts at d few is
  by_event n rest s p a lasts at d few DropLines is = single s p DropLines a at (due_drain o s.processors p d ∙ ap Some is)
  by_event n rest s p a lasts at d few other is =
      absurd (let yes_back : is_back (write_back_or_drop p) ≡ true = back_case (λ (e : Event). is_back e ≡ true) p (λ x v. refl) refl in let not_back : is_back (write_back_or_drop p) ≡ false = ap is_back is in cc)

  flushes : (n : ℕ) → Flushes n
  flushes zero s p a lasts at d few = absurd (let less = falls s p a at d in omega (arith, less, few))
  flushes (suc n) s p a lasts at d few = by_event n (flushes n) s p a lasts at d few (write_back_or_drop p) refl

  pub follows : (s : System) (p : Processor) (e : Event) → Along first b (machine s (Some o)) → is_over o s.processors ≡ false → slice_get s.processors k ≡ Some p → due o s.processors p p.phase ≡ Some e
      → Gone s (seen_after (whole_flush e) (seen p))
  follows s p (WriteBack x v) a lasts at h = flushes (left_of p) s p a lasts at (draining o s.processors p x v h) (omega arith)
  follows s p other a lasts at h = single s p other a at h
