use Rattle.std.proofs.Common.{◌<◌, ◌∙◌, ap, sym, subst}
use Rattle.mt_regs.specs.RegisterFile.{page_count}
use Rattle.mt_machine.specs.System.{Processor}
use Rattle.mt_cpu.specs.State.{processor_of}
use Rattle.mt_cpu.proofs.Facts.{answered, lent}
use Rattle.mt_cpu.proofs.cpu.Cpu.map.Goals as goal

pub invariant_of-self : goal.invariant_of-self
invariant_of-self c =
    answered _ c.args.x (processor_of c.deref_mut.result.now) c.set.new.self c.set.ensures.done c.set.ensures.kept c.requires.index
    (subst (λ (p : Processor). c.args.x.ppage < page_count p.file) (sym (ap processor_of c.deref_mut.ensures.value ∙ c.self.view_is)) c.requires.page) (lent _ _ c.deref_mut.ensures.value c.self.invariant)
