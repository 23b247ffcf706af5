use Rattle.std.proofs.Common.{◌≡◌, ap, sym, arith, refl, rules}
use Rattle.std.specs.Prelude.{None, Option, Some}
use Rattle.std.specs.Option.{option_map}
use Rattle.mt_core.specs.declared.fault.CallFault.TheVariants.{Refused}
use Rattle.mt_machine_laws.specs.MachineWorkedRuns.{bare_file}
use Rattle.mt_regs.specs.Faults.{IsAccepted, IsFirstFault}
use Rattle.mt_regs.specs.FirstFault.{first_fault}
use Rattle.mt_regs.specs.declared.fault.Fault.{Fault}
use Rattle.mt_regs.specs.declared.fault.Reason.TheVariants.{UnsupportedType}
use Rattle.mt_script.specs.declared.command.Command.TheVariants as asks
use Rattle.mt_script.specs.declared.command.Ask.TheVariants as ask
use Rattle.mt_script.specs.declared.command.Stage.TheVariants as stage
use Rattle.mt_replay.specs.ReplayState.{call_fault}
use Rattle.mt_replay_laws.specs.WorkedStates.{busy, crowd, resting}
use Rattle.mt_replay.proofs.FirstFault.{is_first_fault}
use Rattle.mt_replay_laws.proofs.worked_laws.worked_laws_of_calls.Goals as goal

accepted : IsAccepted (bare_file 0x800)
accepted = search rules

no_fault : first_fault (bare_file 0x800) ≡ None
no_fault = sym (is_first_fault (bare_file 0x800) None accepted)

none : call_fault (resting stage.InBegin).machine (bare_file 0x800) ≡ None
none = ap (λ (o : Option Fault). option_map Refused o) no_fault

fault : IsFirstFault (bare_file 0x803) (Some (record { msr = 0x2ff; reason = UnsupportedType }))
fault = search rules

pub returns-clause-refused : goal.returns-clause-refused
returns-clause-refused c = λ law. law (record (resting stage.InBegin) { goal = bare_file 0x803 }) (record { msr = 0x2ff; reason = UnsupportedType }) refl fault

pub returns-clause-under_way : goal.returns-clause-under_way
returns-clause-under_way c = λ law. law (busy stage.InUpdate) (search rules)

pub returns-clause-called : goal.returns-clause-called
returns-clause-called c = λ law. law (resting stage.InBegin) refl none

pub returns-clause-absent : goal.returns-clause-absent
returns-clause-absent c = λ law. law (crowd 1) (asks.Ask 1 (ask.Store 0x1000 7)) 1 refl (omega arith)
