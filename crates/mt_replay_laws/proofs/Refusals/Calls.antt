-- What refused and accepted calls of an update leave.
use Rattle.std.proofs.Common.{◌≡◌, ◌∙◌, ap, subst, Bool, true, false, if◌then◌else◌, Option, Some}
use Rattle.std.specs.Option.{option_map_or}
use Rattle.mt_regs.specs.declared.fault.Fault.{Fault}
use Rattle.mt_regs.specs.Faults.{IsFirstFault}
use Rattle.mt_machine.specs.Machine.{Calls, common_era, next}
use Rattle.mt_machine.specs.Update.{updated}
use Rattle.mt_core.specs.declared.fault.CallFault.{CallFault}
use Rattle.mt_core.specs.declared.fault.CallFault.TheVariants.{Refused, UnderWay}
use Rattle.mt_replay.specs.ReplayState.{ReplayState, after_call, after_update, call_fault, call_line, each_processor, is_update, update_line}
use Rattle.mt_replay_laws.specs.Settling.{AcceptedCallsAreUnderWay, AcceptedWhereIdle, CallsUnderWayChangeNothing, EndsIdle, RefusedCallsChangeNothing}
use Rattle.mt_replay.specs.Texts.{call_fault_line, called_line, complete_line}
use Rattle.mt_replay.proofs.Calls.{call_accepted, call_fails}
use Rattle.mt_replay.proofs.Keeping.States.{accepted_of, call_allowed}

-- ---- refused

-- a fault is told, and the machine stays
pub ends_idle : (s : ReplayState) (fault : CallFault) → call_fault s.machine s.goal ≡ Some fault → EndsIdle s (call_fault_line fault)
ends_idle s fault is = one (is_update s.now.stage)
  where
    one : (b : Bool)
        → ((if b then update_line s.machine s.goal else call_line s.machine s.goal) ≡ call_fault_line fault) × ((if b then after_update s.machine s.goal else after_call s.machine s.goal) ≡ s.machine)
    one true = (
      ap (λ (o : Option CallFault). option_map_or call_fault_line o (complete_line (common_era (after_update s.machine s.goal).system.processors))) is,
      ap (λ (o : Option CallFault). option_map_or (λ fault. s.machine) o (updated s.machine.system (each_processor s.machine.system) s.goal)) is,
    )
    one false = (
      ap (λ (o : Option CallFault). option_map_or call_fault_line o called_line) is,
      ap (λ (o : Option CallFault). option_map_or (λ fault. s.machine) o (next s.machine (Calls s.goal))) is,
    )

pub refused_calls_change_nothing : RefusedCallsChangeNothing
refused_calls_change_nothing s fault none first =
    ends_idle s (Refused fault) (call_fails s.machine s.goal (Refused fault) (λ busy. absurd (cc busy)) (λ own same. let e : fault ≡ own = cc same in (none, subst (λ (f : Fault). IsFirstFault s.goal (Some f)) e first)))

pub calls_under_way_change_nothing : CallsUnderWayChangeNothing
calls_under_way_change_nothing s busy = ends_idle s UnderWay (call_fails s.machine s.goal UnderWay (λ same. busy) (λ own same. absurd (cc same)))

-- ---- accepted

pub accepted_where_idle : AcceptedWhereIdle
accepted_where_idle s = (
  λ none. let allowed = call_allowed s.machine s.goal none in (allowed.0, accepted_of s.goal allowed.1),
  λ idle. call_accepted s.machine s.goal idle.0 idle.1,
)

pub accepted_calls : AcceptedCallsAreUnderWay
accepted_calls s begin none = (
  ap (λ (b : Bool). if b then update_line s.machine s.goal else call_line s.machine s.goal) begin ∙ ap (λ (o : Option CallFault). option_map_or call_fault_line o called_line) none,
  ap (λ (b : Bool). if b then after_update s.machine s.goal else after_call s.machine s.goal) begin
      ∙ ap (λ (o : Option CallFault). option_map_or (λ fault. s.machine) o (next s.machine (Calls s.goal))) none,
)
