use Rattle.std.proofs.Common.{arith, refl}
use Rattle.mt_machine_laws.specs.MachineWorkedRuns.{idle, line_of}
use Rattle.mt_machine_laws.proofs.machine_worked.worked_quiet.Goals as goal

pub returns-clause-unsound : goal.returns-clause-unsound
returns-clause-unsound c = λ h. omega (arith, h.sound.coherent.clean 0 idle (omega arith) 0 (line_of 0 0) (omega arith) 0 (omega arith) refl)

pub returns-clause-not_running : goal.returns-clause-not_running
returns-clause-not_running c = λ h. absurd (cc (h.running 1 idle (omega arith)))

pub returns-clause-two_eras : goal.returns-clause-two_eras
returns-clause-two_eras c = λ h. omega (arith, h.one_era 1 idle (omega arith))

pub returns-clause-two_widths : goal.returns-clause-two_widths
returns-clause-two_widths c = λ h. omega (arith, (h.one_kind 0 idle (omega arith) 1 idle (omega arith)).width)

pub returns-clause-under_way : goal.returns-clause-under_way
returns-clause-under_way c = λ h. absurd (cc h.no_order)
