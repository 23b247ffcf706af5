use Rattle.std.proofs.Common.{◌==◌, not}
use Rattle.mt_tlb.specs.declared.entry.Entry.{Entry}
use Rattle.mt_cpu.specs.State.{processor_of}
use Rattle.mt_cpu.proofs.Facts.{filtered, lent}
use Rattle.mt_cpu.proofs.cpu.Cpu.invlpg.Goals as goal

pub invariant_of-self : goal.invariant_of-self
invariant_of-self c =
    rw c.drop_page.ensures (filtered (λ (e : Entry). not (e.vpage == c.args.vpage)) (processor_of c.deref_mut.result.now) (lent _ _ c.deref_mut.ensures.value c.self.invariant))
