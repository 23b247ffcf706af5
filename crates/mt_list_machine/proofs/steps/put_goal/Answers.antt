use Rattle.std.proofs.Common.{◌∙◌, ap, sym, Option}
use Rattle.std.specs.Option.{unwrap_or}
use Rattle.std.proofs.lemmas.Option.{get_or_from_slice_get, unwrap_or-slice_get}
use Rattle.mt_regs.specs.declared.registers.Register.{Register}
use Rattle.mt_regs.specs.declared.registers.Register.TheVariants.{DefaultType}
use Rattle.mt_regs.specs.Registers.{with_value, writable}
use Rattle.mt_machine.specs.Machine.{with_goal}
use Rattle.mt_list_machine.proofs.steps.put_goal.Goals as goal

pub returns-in-Some : goal.returns-in-Some
returns-in-Some c =
    c.put.ensures ∙ ap (with_value c.args.regs.now c.in-Some.register) c.value_of.ensures
    ∙ sym (ap (λ (r : Register). with_goal c.args.goal.now r c.args.regs.now) (get_or_from_slice_get (writable c.args.goal.now) c.args.i c.in-Some.register DefaultType c.in-Some.ensures.at))

pub returns-in-None : goal.returns-in-None
returns-in-None c =
    c.put_default.ensures
    ∙ ap (λ (r : Register). with_goal c.args.goal.now r c.args.regs.now)
    (ap (λ (o : Option Register). unwrap_or o DefaultType) (sym c.in-None.is ∙ sym c.register_at.ensures.at) ∙ unwrap_or-slice_get (writable c.args.goal.now) c.args.i DefaultType)
