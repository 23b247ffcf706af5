use Rattle.std.proofs.Common.{◌≡◌, ◌∙◌, ◌≤◌, ◌+◌, ap, sym, subst, length}
use Rattle.mt_regs.specs.RegisterFile.{RegisterFile}
use Rattle.mt_regs.specs.Registers.{writable}
use Rattle.mt_machine.specs.System.{Processor, is_writing, is_tlb_flushed}
use Rattle.mt_cpu.specs.State.{processor_of}
use Rattle.mt_cpu.specs.Steps.{HasFirst}
use Rattle.mt_cpu.proofs.Facts.{lent}
use Rattle.mt_cpu.proofs.Stepping.{enabled_facts, file_is_goal}
use Rattle.mt_cpu.proofs.cpu.Cpu.enable.Goals as goal

pub invariant_of-self : goal.invariant_of-self
invariant_of-self c =
    let p = processor_of c.deref_mut-state.result.now in
    let seen : p ≡ c.args.self.now = ap processor_of c.deref_mut-state.ensures.value ∙ c.self.view_is in
    let facts = lent _ _ c.deref_mut-state.ensures.value c.self.invariant in
    let regs : p.file ≡ c.args.self.now.file = ap (λ (q : Processor). q.file) seen in
    let phase = ap (λ (q : Processor). q.phase) seen ∙ c.requires.phase in
    let made = file_is_goal c.args.goal.now p.file c.args.i c.is_register_file.ensures c.is_register_file-2.ensures
    (c.requires.fits.width ∙ ap (λ (f : RegisterFile). f.width) (sym regs)) (c.requires.fits.capabilities ∙ ap (λ (f : RegisterFile). f.capabilities) (sym regs))
    (facts.in_range c.args.i (ap is_writing phase))
    (subst (λ (f : RegisterFile). length (writable f) ≤ c.args.i + 1) (sym regs) c.requires.last)
    (subst (λ (f : RegisterFile). HasFirst c.args.i c.args.goal.now f) (sym regs) c.requires.written) in
    let is : c.put.new.self ≡ c.args.goal.now = c.put.ensures ∙ ap (λ (g : RegisterFile). record p.file { default_type = g.default_type }) c.goal.view_is ∙ made in
    enabled_facts c.args.goal.now c.put.new.self p is c.requires.accepted
    (c.requires.fits.width ∙ ap (λ (f : RegisterFile). f.width) (sym regs)) (ap is_tlb_flushed phase) facts
