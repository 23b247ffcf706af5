use Rattle.std.proofs.Common.{◌∙◌, subst, sym}
use Rattle.mt_regs.specs.Faults.{IsFirstFault}
use Rattle.mt_gran.proofs.grains.gran_in.Goals as goal

pub rounded_fit-requires-clause-accepted : goal.rounded_fit-requires-clause-accepted
rounded_fit-requires-clause-accepted c = subst (IsFirstFault c.args.f.now) c.in_default.is c.first_fault.ensures

pub rounded_fit-requires-clause-enabled : goal.rounded_fit-requires-clause-enabled
rounded_fit-requires-clause-enabled c = sym c.is_enabled.ensures ∙ c.if-not-is_enabled.false
