-- But while the registers are written, each processor's file is accepted.
use Rattle.std.proofs.Common.{◌≡◌, ◌≢◌, ℕ, ◌+◌, List, length, Some, None, Option, Bool, true, false, refl, sym, ap, subst, ◌∙◌, ⊎_elim}
use Rattle.std.specs.Prelude.{slice_get, if◌then◌else◌, nat_lt}
use Rattle.std.specs.Option.{option_map_or}
use Rattle.mt_regs.specs.Registers.{writable}
use Rattle.mt_regs.specs.Faults.{IsAccepted}
use Rattle.mt_machine.specs.declared.phase.Phase.{Phase}
use Rattle.mt_machine.specs.declared.phase.Phase.TheVariants.{Writing}
use Rattle.mt_machine.specs.declared.event.Event.{Event}
use Rattle.mt_machine.specs.declared.event.Event.TheVariants.{Take, WriteBack, FlushTlb, Disable, Write, Enable}
use Rattle.mt_machine.specs.System.{Processor, System, is_writing}
use Rattle.mt_machine.specs.Machine.{Machine, Order, MachineEvent, Accesses, Controls, Calls, Goes, Cancels, Steps, IsEnabled, next, due, own_step, before_own, step, is_over, remaining_order}
use Rattle.mt_machine.specs.declared.go.Go.TheVariants.{Given, Cancelled}
use Rattle.mt_laws.proofs.Barrier.Stages.{stage_of, stages}
use Rattle.mt_laws.proofs.Barrier.Ranks.{stage_at}
use Rattle.mt_laws.proofs.Barrier.Barriers.{Kept}
use Rattle.mt_laws.proofs.Clearing.Follows.{FollowsIn, follows_drain, follows_access, follows_control}
use Rattle.mt_laws.proofs.Clearing.Renewed.{at_change}
use Rattle.mt_laws.proofs.Registers.Filed.{FiledAt, AllFiled, filed_step, flush_file}

abbrev pub FileAccepted : Processor → Type 0
FileAccepted p = is_writing p.phase ≡ None → IsAccepted p.file

abbrev pub EachAccepted : List Processor → Type 0
EachAccepted ps = (i : ℕ) (p : Processor) → slice_get ps i ≡ Some p → FileAccepted p

abbrev pub GoalAccepted : Option Order → Type 0
GoalAccepted None = Unit {0}
GoalAccepted (Some o) = IsAccepted o.goal

accepted_as : (p q : Processor) → q.file ≡ p.file → q.phase ≡ p.phase → FileAccepted p → FileAccepted q
accepted_as p q file phase h off = subst IsAccepted (sym file) (h (ap is_writing (sym phase) ∙ off))

pub accepted_follows : (k : ℕ) (ps qs : List Processor) → FollowsIn k ps qs → EachAccepted ps → EachAccepted qs
accepted_follows k ps qs f all j q at = let from = f j q at in accepted_as from.0 q from.2.file from.2.phase (all j from.0 from.1)

-- ---- one step

is_register_event : Event → Bool
is_register_event (Write i) = true
is_register_event Enable = true
is_register_event other = false

due_not_writing : (o : Order) (ps : List Processor) (p : Processor) (ph : Phase) (e : Event) → due o ps p ph ≡ Some e → is_register_event e ≡ false → is_writing ph ≡ None
unfolding is_register_event
due_not_writing o ps p (Writing i) e h off = absurd (one (nat_lt (i + 1) (length (writable p.file))) h)
  where
    one : (b : Bool) → Some (if b then Write i else Enable) ≡ Some e → ⊥
    one true g = let q : is_register_event e ≡ true = ap is_register_event (let r : e ≡ Write i = cc in r) in absurd (cc)
    one false g = let q : is_register_event e ≡ true = ap is_register_event (let r : e ≡ Enable = cc in r) in absurd (cc)
due_not_writing o ps p other e h off = refl

module _ (o : Order) (ps : List Processor) (p : Processor) (goal : IsAccepted o.goal) (own : FileAccepted p) where
  own_accepted : (e : Event) → due o ps p p.phase ≡ Some e → FiledAt o (own_step o.goal e p) → FileAccepted (own_step o.goal e p)
  unfolding is_register_event
  own_accepted (Write i) h fd off = absurd (cc)
  own_accepted Disable h fd off = absurd (cc)
  own_accepted Enable h fd off = subst IsAccepted (sym (fd.done refl)) goal
  own_accepted FlushTlb h fd off = subst IsAccepted (sym (flush_file p.phase p)) (own (due_not_writing o ps p p.phase FlushTlb h refl))
  own_accepted other h fd off = own (due_not_writing o ps p p.phase other h refl)

stepped_accepted : (o : Order) (k : ℕ) (s : System) (p x : Processor) (e : Event) → slice_get s.processors k ≡ Some p → slice_get (before_own e k s).processors k ≡ Some x → FileAccepted (own_step o.goal e p) → FileAccepted (own_step o.goal e x)
stepped_accepted o k s p x Take is_p is_x h =
    let from = follows_drain k s k x is_x in
    let same : from.0 ≡ p = let e : Some (from.0) ≡ Some p = sym from.1 ∙ is_p in cc in
    accepted_as (own_step o.goal Take p) (own_step o.goal Take x) (from.2.file ∙ ap (λ (y : Processor). y.file) same) refl h
stepped_accepted o k s p x (WriteBack a v) is_p is_x h =
    let same : p ≡ x = let e : Some p ≡ Some x = sym is_p ∙ is_x in cc in subst (λ (y : Processor). FileAccepted (own_step o.goal (WriteBack a v) y)) same h
stepped_accepted o k s p x other is_p is_x h =
    let same : p ≡ x = let e : Some p ≡ Some x = sym is_p ∙ is_x in cc in subst (λ (y : Processor). FileAccepted (own_step o.goal other y)) same h

others_accepted : (k j : ℕ) (s : System) (q : Processor) (e : Event) → slice_get (before_own e k s).processors j ≡ Some q → EachAccepted s.processors → FileAccepted q
others_accepted k j s q Take at all = let from = follows_drain k s j q at in accepted_as from.0 q from.2.file from.2.phase (all j from.0 from.1)
others_accepted k j s q (WriteBack a v) at all = all j q at
others_accepted k j s q other at all = all j q at

step_accepted : (o : Order) (e : Event) (k : ℕ) (s : System) (p : Processor) → slice_get s.processors k ≡ Some p → due o s.processors p p.phase ≡ Some e → Kept (Some o) (stages s) → AllFiled (Some o) s.processors → IsAccepted o.goal → EachAccepted s.processors → EachAccepted (step o.goal e k s).processors
step_accepted o e k s p is_p h g filed goal all j q at =
    ⊎_elim
    (λ (m : (j ≡ k) × (x : Processor) × (slice_get (before_own e k s).processors k ≡ Some x) × (own_step o.goal e x ≡ q)).
    let fd : FiledAt o (own_step o.goal e p) = filed_step o s.processors p filed.0 (filed.1 k p is_p) (g.in_step k (stage_of p) (stage_at s.processors k p is_p)) p.phase e refl h in
    subst FileAccepted m.3 (stepped_accepted o k s p m.1 e is_p m.2 (own_accepted o s.processors p goal (all k p is_p) e h fd)))
    (λ (m : (j ≢ k) × (slice_get (before_own e k s).processors j ≡ Some q)). others_accepted k j s q e m.1 all)
    (at_change (own_step o.goal e) k (before_own e k s) j q at)

accepted_still : (o : Order) (ps : List Processor) → GoalAccepted (Some o) → GoalAccepted (remaining_order o ps)
accepted_still o ps goal = one (is_over o ps)
  where
    one : (b : Bool) → GoalAccepted (if b then None else Some o)
    one true = tt
    one false = goal

pub record Accepted (m : Machine) : Type 0 where
  pub goal : GoalAccepted m.order
  pub each : EachAccepted m.system.processors

accepted_in : (e : MachineEvent) (s : System) (o : Option Order) → IsEnabled (record { system = s; order = o }) e → Kept o (stages s) → AllFiled o s.processors → Accepted (record { system = s; order = o }) → Accepted (next (record { system = s; order = o }) e)
accepted_in (Accesses k op) s o enabled kept filed a = record { goal = a.goal; each = accepted_follows k s.processors _ (follows_access s k op) a.each }
accepted_in (Controls k c) s o enabled kept filed a = record { goal = a.goal; each = accepted_follows k s.processors _ (follows_control s k c) a.each }
accepted_in (Calls goal) s o enabled kept filed a = record { goal = enabled.2; each = a.each }
accepted_in Goes s None enabled kept filed a = a
accepted_in Goes s (Some o) enabled kept filed a = record { goal = accepted_still (record o { go = Given }) s.processors a.goal; each = a.each }
accepted_in Cancels s None enabled kept filed a = a
accepted_in Cancels s (Some o) enabled kept filed a = record { goal = accepted_still (record o { go = Cancelled }) s.processors a.goal; each = a.each }
accepted_in (Steps k e) s None enabled kept filed a = a
accepted_in (Steps k e) s (Some o) enabled kept filed a = one (slice_get s.processors k) refl enabled
  where
    one : (q : Option Processor) → slice_get s.processors k ≡ q → option_map_or (λ p. due o s.processors p p.phase) q None ≡ Some e → Accepted (record { system = step o.goal e k s; order = remaining_order o (step o.goal e k s).processors })
    one None at h = absurd (cc)
    one (Some p) at h = record { goal = accepted_still o (step o.goal e k s).processors a.goal; each = step_accepted o e k s p at h kept filed a.goal a.each }

pub accepted_next : (m : Machine) (e : MachineEvent) → IsEnabled m e → Kept m.order (stages m.system) → AllFiled m.order m.system.processors → Accepted m → Accepted (next m e)
accepted_next m e enabled kept filed a = accepted_in e m.system m.order enabled kept filed a
