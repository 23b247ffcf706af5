use Rattle.std.proofs.Common.{◌≡◌, ◌∙◌, ap, Err, None, Some}
use Rattle.mt_regs.proofs.First.{one_first_fault_lem}
use Rattle.mt_core.specs.declared.fault.CallFault.{CallFault}
use Rattle.mt_core.specs.declared.fault.CallFault.TheVariants.{Refused}
use Rattle.mt_admit.proofs.admission.call_accepted.Goals as goal

pub unreachable-requires-in-Err-Refused : goal.unreachable-requires-in-Err-Refused
unreachable-requires-in-Err-Refused c =
    let fault = c.in-Err-Refused.field-0-0 in
    let is : c.call.result ≡ Err (Refused c.in-Err-Refused.field-0-0) = c.in-Err-Refused.is ∙ ap (λ (x : CallFault). Err x) c.in-Err-Refused.field-0-is in
    let e : None ≡ Some c.in-Err-Refused.field-0-0 = one_first_fault_lem c.args.goal.now None (Some c.in-Err-Refused.field-0-0) c.requires.accepted (c.call.ensures.refused c.in-Err-Refused.field-0-0 is).1 in
    cc e
