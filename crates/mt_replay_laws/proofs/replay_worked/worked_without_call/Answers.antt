use Rattle.std.proofs.Common.{◌≡◌, refl, sym, subst, rules}
use Rattle.std.specs.Prelude.{Option, None, IsSome}
use Rattle.std.specs.Option.{option_map}
use Rattle.mt_regs.specs.declared.fault.Fault.{Fault}
use Rattle.mt_core.specs.declared.fault.CallFault.TheVariants.{Refused}
use Rattle.mt_regs.specs.Faults.{IsAccepted}
use Rattle.mt_machine_laws.specs.MachineWorkedRuns.{bare_file}
use Rattle.mt_replay.specs.FirstFault.{first_fault}
use Rattle.mt_replay.specs.ReplayState.{call_fault}
use Rattle.mt_replay_laws.specs.WorkedStates.{resting}
use Rattle.mt_replay.proofs.FirstFault.{is_first_fault}
use Rattle.mt_script.specs.declared.command.Stage.TheVariants as stage
use Rattle.mt_script.specs.declared.command.Newcomer.TheVariants.{Up, Join}
use Rattle.mt_replay_laws.proofs.replay_worked.worked_without_call.Goals as goal

accepted : IsAccepted (bare_file 0x800)
accepted = search rules

no_fault : None ≡ first_fault (bare_file 0x800)
no_fault = is_first_fault (bare_file 0x800) None accepted

not_called : IsSome (call_fault (resting stage.Commands).machine (bare_file 0x800)) → ⊥
not_called h = absurd (cc (subst (λ (o : Option Fault). IsSome (option_map Refused o)) (sym no_fault) h))

pub returns-clause-called : goal.returns-clause-called
returns-clause-called c = λ h. not_called (h.1.0 refl)

pub returns-clause-full : goal.returns-clause-full
returns-clause-full c = (refl, (λ e. absurd (cc e), λ h. refl), (refl, (λ e. absurd (cc e), λ h. refl), tt))

pub returns-clause-up : goal.returns-clause-up
returns-clause-up c = λ h. absurd (cc (h.1.1 (Up, refl)))

pub returns-clause-room_again : goal.returns-clause-room_again
returns-clause-room_again c = λ h. absurd (cc (h.2.1.1 (Join, refl)))
