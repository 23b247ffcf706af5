-- No event changes a processor's width or capabilities, so where no update is under way a reached state is quiet.
use Rattle.std.proofs.Common.{◌≡◌, ◌≢◌, ℕ, List, [], ◌∷◌, Some, None, Option, true, refl, sym, ap, subst, ◌∙◌, ⊎_elim}
use Rattle.std.specs.Prelude.{slice_get, slice_index_or}
use Rattle.std.specs.List.{All}
use Rattle.mt_regs.specs.RegisterFile.{RegisterFile}
use Rattle.mt_regs.specs.declared.registers.Register.{Register}
use Rattle.mt_regs.specs.declared.registers.Register.TheVariants.{PhysBase, PhysMask, FixedRange, Pat, DefaultType}
use Rattle.mt_regs.specs.Registers.{writable}
use Rattle.mt_machine.specs.declared.event.Event.{Event}
use Rattle.mt_machine.specs.declared.event.Event.TheVariants.{Take, WriteBack, FlushTlb, Write}
use Rattle.mt_machine.specs.System.{IsSound, Processor, System}
use Rattle.mt_machine.specs.Access.{is_running}
use Rattle.mt_machine.specs.Machine.{Machine, Order, MachineEvent, Accesses, Controls, Calls, Goes, Cancels, Steps, next, own_step, before_own, step, with_goal, common_era, FitsGoal, Reached, at_start, after}
use Rattle.mt_machine.specs.Start.{IsQuiet, IsBroadcast, IsStart}
use Rattle.mt_laws.specs.Starts.{ReachedIsQuiet}
use Rattle.mt_laws.proofs.Barrier.Stages.{stage_of, stages}
use Rattle.mt_laws.proofs.Barrier.Ranks.{stage_at}
use Rattle.mt_laws.proofs.Barrier.Barriers.{Invariant, Rest, Kept, reached_keeps, era_at}
use Rattle.mt_laws.proofs.Barrier.Claims.{all_get, all_of, start_invariant}
use Rattle.mt_laws.proofs.Clearing.Follows.{follows_drain, follows_access, follows_control}
use Rattle.mt_laws.proofs.Clearing.Renewed.{at_change}
use Rattle.mt_laws.proofs.Registers.Filed.{flush_file}
use Rattle.mt_laws.proofs.Invariant.Standing.{stays_sound}

-- a file's width and capabilities
abbrev pub Shape : Type 0
Shape = ℕ × ℕ

abbrev pub shape : RegisterFile → Shape
shape f = (f.width, f.capabilities)

abbrev pub AllOf : Shape → List Processor → Type 0
AllOf v ps = (i : ℕ) (p : Processor) → slice_get ps i ≡ Some p → shape p.file ≡ v

shape_written : (goal f : RegisterFile) (r : Register) → shape (with_goal goal r f) ≡ shape f
shape_written goal f (PhysBase n) = refl
shape_written goal f (PhysMask n) = refl
shape_written goal f (FixedRange i) = refl
shape_written goal f Pat = refl
shape_written goal f DefaultType = refl

own_shape : (goal : RegisterFile) (e : Event) (p : Processor) → shape (own_step goal e p).file ≡ shape p.file
own_shape goal (Write i) p = shape_written goal p.file (slice_index_or (writable goal) i DefaultType)
own_shape goal FlushTlb p = ap shape (flush_file p.phase p)
own_shape goal other p = refl

before_shapes : (v : Shape) (e : Event) (k : ℕ) (s : System) → AllOf v s.processors → AllOf v (before_own e k s).processors
before_shapes v Take k s all = λ j q at. let from = follows_drain k s j q at in ap shape from.2.file ∙ all j from.0 from.1
before_shapes v (WriteBack a w) k s all = all
before_shapes v other k s all = all

step_shapes : (v : Shape) (goal : RegisterFile) (e : Event) (k : ℕ) (s : System) → AllOf v s.processors → AllOf v (step goal e k s).processors
step_shapes v goal e k s all j q at =
    let before = before_shapes v e k s all in
    ⊎_elim
    (λ (m : (j ≡ k) × (x : Processor) × (slice_get (before_own e k s).processors k ≡ Some x) × (own_step goal e x ≡ q)).
    ap (λ (y : Processor). shape y.file) (sym m.3) ∙ own_shape goal e m.1 ∙ before k m.1 m.2)
    (λ (m : (j ≢ k) × (slice_get (before_own e k s).processors j ≡ Some q)). before j q m.1)
    (at_change (own_step goal e) k (before_own e k s) j q at)

pub next_shapes : (v : Shape) (e : MachineEvent) (s : System) (o : Option Order) → AllOf v s.processors → AllOf v (next (record { system = s; order = o }) e).system.processors
next_shapes v (Accesses k op) s o all = λ j q at. let from = follows_access s k op j q at in ap shape from.2.file ∙ all j from.0 from.1
next_shapes v (Controls k c) s o all = λ j q at. let from = follows_control s k c j q at in ap shape from.2.file ∙ all j from.0 from.1
next_shapes v (Calls goal) s o all = all
next_shapes v Goes s None all = all
next_shapes v Goes s (Some o) all = all
next_shapes v Cancels s None all = all
next_shapes v Cancels s (Some o) all = all
next_shapes v (Steps k e) s None all = all
next_shapes v (Steps k e) s (Some o) all = step_shapes v o.goal e k s all

reached_shapes : (v : Shape) {s t : Machine} → Reached s t → AllOf v s.system.processors → AllOf v t.system.processors
reached_shapes v at_start all = all
reached_shapes v (after {t = t} e r enabled) all = next_shapes v e t.system t.order (reached_shapes v r all)

-- ---- each start has one shape

first_shape : List Processor → Shape
first_shape [] = (0, 0)
first_shape (p ∷ ps) = shape p.file

fits_shape : (f : RegisterFile) (q : Processor) → FitsGoal f q → shape q.file ≡ shape f
fits_shape f q h = λ i. (sym h.width i, sym h.capabilities i)

quiet_shapes : (ps : List Processor) → All (λ p. All (λ q. FitsGoal p.file q) ps) ps → AllOf (first_shape ps) ps
unfolding first_shape
quiet_shapes [] h i p at = absurd (cc)
quiet_shapes (x ∷ ps) h i p at =
    fits_shape x.file p (all_get (FitsGoal x.file) (x ∷ ps) (all_get (λ (y : Processor). All (FitsGoal y.file) (x ∷ ps)) (x ∷ ps) h 0 x refl) i p at)

pub start_shape : (m : Machine) → IsStart m → (v : Shape) × AllOf v m.system.processors
start_shape m start =
    ⊎_elim
    (λ (q : IsQuiet m). let r : (v : Shape) × AllOf v m.system.processors = (first_shape m.system.processors, quiet_shapes m.system.processors q.one_kind) in r)
    (λ (b : (o : Order) × IsBroadcast m o).
    let r : (v : Shape) × AllOf v m.system.processors =
    (shape b.0.goal, λ i p at. fits_shape b.0.goal p (all_get (FitsGoal b.0.goal) m.system.processors b.1.fits i p at)) in r)
    start

-- ---- quiet

alike_fit : (v : Shape) (p q : Processor) → shape p.file ≡ v → shape q.file ≡ v → FitsGoal p.file q
alike_fit v p q is_p is_q =
    let same : shape p.file ≡ shape q.file = is_p ∙ sym is_q in
    record { width = ap (λ (x : Shape). x.0) same; capabilities = ap (λ (x : Shape). x.1) same }

pub quiet_of : (v : Shape) (m : Machine) → IsSound m.system → Invariant m → AllOf v m.system.processors → m.order ≡ None → IsQuiet m
quiet_of v m sound kept alike none =
    let ps : List Processor = m.system.processors in
    let rest : Rest (stages m.system) = subst (λ (o : Option Order). Kept o (stages m.system)) none kept in
    record {
      sound = sound;
      running = all_of (λ p. is_running p.phase ≡ true) ps (λ i p at. rest.running i (stage_of p) (stage_at ps i p at));
      one_era = all_of (λ p. p.era ≡ common_era ps) ps (λ i p at. era_at ps rest i (stage_of p) (stage_at ps i p at));
      one_kind = all_of (λ p. All (λ q. FitsGoal p.file q) ps) ps (λ i p at. all_of (FitsGoal p.file) ps (λ j q at_q. alike_fit v p q (alike i p at) (alike j q at_q)));
      no_order = none;
    }

pub reached_is_quiet : ReachedIsQuiet
reached_is_quiet s m start r none =
    let first = start_shape s start in
    quiet_of first.0 m (stays_sound s m start r) (reached_keeps r (start_invariant s start)) (reached_shapes first.0 r first.1) none
