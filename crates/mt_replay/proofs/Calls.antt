-- What a call of an update answers.
use Rattle.std.proofs.Common.{◌≡◌, sym, refl, None, Some}
use Rattle.std.specs.Prelude.{IsSome}
use Rattle.mt_regs.specs.declared.fault.Fault.{Fault}
use Rattle.mt_regs.specs.RegisterFile.{RegisterFile}
use Rattle.mt_regs.specs.Faults.{IsAccepted, IsFirstFault}
use Rattle.mt_machine.specs.Machine.{Machine}
use Rattle.mt_core.specs.declared.fault.CallFault.{CallFault}
use Rattle.mt_core.specs.declared.fault.CallFault.TheVariants.{Refused, UnderWay}
use Rattle.mt_replay.specs.ReplayState.{call_fault}
use Rattle.mt_replay.proofs.FirstFault.{is_first_fault}

pub call_accepted : (m : Machine) (goal : RegisterFile) → m.order ≡ None → IsAccepted goal → call_fault m goal ≡ None
call_accepted m goal none is = rw (none, sym (is_first_fault goal None is)) refl

-- a call's error is its fault
pub call_fails : (m : Machine) (goal : RegisterFile) (fault : CallFault) → (fault ≡ UnderWay → IsSome m.order)
    → ((own : Fault) → fault ≡ Refused own → (m.order ≡ None) × IsFirstFault goal (Some own)) → call_fault m goal ≡ Some fault
call_fails m goal UnderWay busy bad = rw (busy refl) refl
call_fails m goal (Refused own) busy bad = let is = bad own refl in rw (is.0, sym (is_first_fault goal (Some own) is.1)) refl
