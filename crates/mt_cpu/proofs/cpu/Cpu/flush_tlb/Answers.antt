use Rattle.std.proofs.Common.{◌∙◌, ap, sym, subst, false, List, IsTrue}
use Rattle.mt_tlb.specs.declared.entry.Entry.{Entry}
use Rattle.mt_machine.specs.declared.event.Event.TheVariants.{FlushTlb}
use Rattle.mt_machine.specs.declared.phase.Phase.TheVariants.{TlbFlushed}
use Rattle.mt_machine.specs.System.{Processor}
use Rattle.mt_machine.specs.Machine.{own_step}
use Rattle.mt_cpu.specs.State.{processor_of}
use Rattle.mt_cpu.specs.Steps.{is_first_flushing}
use Rattle.mt_cpu.proofs.Facts.{lent}
use Rattle.mt_cpu.proofs.Stepping.{flushed_step}
use Rattle.mt_cpu.proofs.cpu.Cpu.flush_tlb.Goals as goal

pub returns : goal.returns
returns c = λ g.
    let p = processor_of c.deref_mut-state.result.now in
    let seen = ap processor_of c.deref_mut-state.ensures.value ∙ c.self.view_is in
    ap (λ (es : List Entry). record p { page_global = false; remembered_global = p.page_global; entries = es; phase = TlbFlushed }) c.drop_all.ensures
    ∙ flushed_step g p (subst (λ (q : Processor). IsTrue (is_first_flushing q.phase)) (sym seen) c.requires) (lent _ _ c.deref_mut-state.ensures.value c.self.invariant)
    ∙ ap (own_step g FlushTlb) seen
