use Rattle.std.proofs.Common.{◌≡◌, sym, ap, Some, Err}
use Rattle.mt_regs.specs.declared.fault.Fault.{Fault}
use Rattle.mt_regs.proofs.FaultNumbers.{fault_number}
use Rattle.mt_core.specs.declared.fault.CallFault.{CallFault}
use Rattle.mt_core.specs.declared.fault.CallFault.TheVariants.{Refused}
use Rattle.mt_replay.proofs.Calls.{call_accepted, call_fails}
use Rattle.mt_replay.proofs.commands.run_update.Goals as goal

pub returns-in-Ok-clause-fault : goal.returns-in-Ok-clause-fault
returns-in-Ok-clause-fault g c =
    sym (call_accepted c.args.core.now c.args.goal.now c.in-Ok.ensures.updated.0 c.in-Ok.ensures.updated.1)

pub returns-in-Ok-clause-updated : goal.returns-in-Ok-clause-updated
returns-in-Ok-clause-updated g c = c.in-Ok.ensures.updated.2

pub returns-in-Err-clause-fault : goal.returns-in-Err-clause-fault
returns-in-Err-clause-fault g c =
    sym
    (call_fails c.args.core.now c.args.goal.now c.in-Err.fault (λ same. c.in-Err.ensures.under_way.0 (ap Err same))
    (λ own same. c.in-Err.ensures.refused own (ap Err same)))

own_of : (fault : CallFault) (own : Fault) → Some fault ≡ Some (Refused own) → fault ≡ Refused own
own_of fault own is = cc is

pub returns-in-Err-clause-short : goal.returns-in-Err-clause-short
returns-in-Err-clause-short g c own is =
    fault_number c.args.goal.now own c.is_register_file.ensures (c.in-Err.ensures.refused own (ap Err (own_of c.in-Err.fault own is))).1
