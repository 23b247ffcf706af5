-- The kind of all processors' registers, and their eras.
use Rattle.std.proofs.Common.{◌≡◌, ◌∙◌, ap, sym, refl, arith, ℕ, ◌+◌, ◌≤◌, Some}
use Rattle.std.specs.List.{All}
use Rattle.std.proofs.lemmas.Option.{slice_get_within}
use Rattle.mt_regs.specs.RegisterFile.{RegisterFile}
use Rattle.mt_regs.specs.declared.registers.Register.{Register}
use Rattle.mt_regs.specs.declared.registers.Register.TheVariants.{PhysBase, PhysMask, FixedRange, Pat, DefaultType}
use Rattle.mt_regs.specs.Registers.{with_value}
use Rattle.mt_machine.specs.Memory.{Memory}
use Rattle.mt_machine.specs.System.{Processor, System}
use Rattle.mt_machine.specs.Machine.{FitsGoal, Machine, MachineEvent, next}
use Rattle.mt_laws.proofs.Barrier.Claims.{all_get, all_of}
use Rattle.mt_laws.proofs.Registers.Quiet.{Shape, next_shapes, shape}
use Rattle.mt_core.specs.Headline.{HasRisenByOne}
use Rattle.mt_bus.proofs.Changed.{processor_of}

shape_of : (f : RegisterFile) (p : Processor) → FitsGoal f p → shape p.file ≡ shape f
shape_of f p h = λ i. (sym h.width i, sym h.capabilities i)

fits_of : (f : RegisterFile) (p : Processor) → shape p.file ≡ shape f → FitsGoal f p
fits_of f p same = record { width = sym (ap (λ (x : Shape). x.0) same); capabilities = sym (ap (λ (x : Shape). x.1) same) }

pub fits_next : (f : RegisterFile) (m : Machine) (e : MachineEvent) → All (FitsGoal f) m.system.processors → All (FitsGoal f) (next m e).system.processors
fits_next f m e all =
    all_of (FitsGoal f) (next m e).system.processors
    (λ j q at. fits_of f q (next_shapes (shape f) e m.system m.order (λ i p at_p. shape_of f p (all_get (FitsGoal f) m.system.processors all i p at_p)) j q at))

-- a write of a register keeps the kind of a file
pub fits_with_value : (f : RegisterFile) (r : Register) (v : ℕ) (p : Processor) → FitsGoal f p → FitsGoal (with_value f r v) p
fits_with_value f (PhysBase n) v p h = record { width = h.width; capabilities = h.capabilities }
fits_with_value f (PhysMask n) v p h = record { width = h.width; capabilities = h.capabilities }
fits_with_value f (FixedRange i) v p h = record { width = h.width; capabilities = h.capabilities }
fits_with_value f Pat v p h = record { width = h.width; capabilities = h.capabilities }
fits_with_value f DefaultType v p h = record { width = h.width; capabilities = h.capabilities }

pub eras_risen : (most : ℕ) (s t : System) → HasRisenByOne s t → All (λ p. p.era ≤ most) s.processors → All (λ p. p.era ≤ most + 1) t.processors
eras_risen most s t risen all =
    all_of (λ p. p.era ≤ most + 1) t.processors
    (λ j q at. let number = risen.same_number in
    let below = slice_get_within t.processors j q at in
    let from = processor_of s.processors j (omega arith) in
    let low = all_get (λ p. p.era ≤ most) s.processors all j from.0 from.1 in
    let rise = risen.eras j from.0 q from.1 at in
    omega arith)

-- no era rises where the memory alone changes
pub risen_same : (s : System) (m : Memory) → HasRisenByOne s (record s { memory = m })
risen_same s m = record {
  same_number = refl;
  eras = λ k p q at_p at_q. let e : Some p ≡ Some q = sym at_p ∙ at_q in let same : p ≡ q = cc in let era = ap (λ (x : Processor). x.era) same in omega arith;
}
