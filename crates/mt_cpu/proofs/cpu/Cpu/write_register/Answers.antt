use Rattle.std.proofs.Common.{◌∙◌, ◌+◌, ap, sym, arith}
use Rattle.std.proofs.lemmas.Option.{get_or_from_slice_get}
use Rattle.mt_regs.specs.RegisterFile.{RegisterFile}
use Rattle.mt_regs.specs.declared.registers.Register.{Register}
use Rattle.mt_regs.specs.declared.registers.Register.TheVariants.{DefaultType}
use Rattle.mt_regs.specs.Registers.{with_value, writable}
use Rattle.mt_machine.specs.declared.event.Event.TheVariants.{Write}
use Rattle.mt_machine.specs.declared.phase.Phase.TheVariants.{Writing}
use Rattle.mt_machine.specs.Machine.{own_step, with_goal}
use Rattle.mt_cpu.specs.State.{processor_of}
use Rattle.mt_cpu.proofs.cpu.Cpu.write_register.Goals as goal

pub overflow_add-state : goal.overflow_add-state
overflow_add-state c = omega (arith, c.requires.word)

pub returns : goal.returns
returns c =
    let p = processor_of c.deref_mut-state.result.now in
    ap (λ (f : RegisterFile). record p { phase = Writing (c.args.i + 1); file = f })
    (c.put.ensures ∙ ap (with_value p.file c.in-Some.register) c.value_of.ensures
    ∙ sym (ap (λ (r : Register). with_goal c.args.goal.now r p.file) (get_or_from_slice_get (writable c.args.goal.now) c.args.i c.in-Some.register DefaultType c.in-Some.ensures.at)))
    ∙ ap (own_step c.args.goal.now (Write c.args.i)) (ap processor_of c.deref_mut-state.ensures.value ∙ c.self.view_is)
