use Rattle.std.proofs.Common.{ℕ, arith, ap, refl, Option, Some, None}
use Rattle.mt_machine.specs.Machine.{Order}
use Rattle.mt_machine_laws.specs.MachineWorkedRuns.{line_of, ready}
use Rattle.mt_machine_laws.proofs.machine_worked.worked_broadcast.Goals as goal

abbrev type_of : Option Order → ℕ
type_of None = 0
type_of (Some o) = o.goal.default_type

pub returns-clause-unsound : goal.returns-clause-unsound
returns-clause-unsound c = λ h. omega (arith, h.sound.coherent.clean 0 ready (omega arith) 0 (line_of 0 0) (omega arith) 0 (omega arith) refl)

pub returns-clause-other_order : goal.returns-clause-other_order
returns-clause-other_order c = λ h. omega (arith, ap type_of h.order)

pub returns-clause-given : goal.returns-clause-given
returns-clause-given c = λ h. absurd (cc h.pending)

pub returns-clause-arrived : goal.returns-clause-arrived
returns-clause-arrived c = λ h. absurd (cc (h.taken 1 ready (omega arith)))

pub returns-clause-buffer : goal.returns-clause-buffer
returns-clause-buffer c = λ h. absurd (cc (h.no_buffers 1 ready (omega arith)))

pub returns-clause-two_eras : goal.returns-clause-two_eras
returns-clause-two_eras c = λ h. omega (arith, h.one_era 1 ready (omega arith))

pub returns-clause-no_file : goal.returns-clause-no_file
returns-clause-no_file c = λ h. omega (arith, h.goal_file.all_fixed)

pub returns-clause-not_accepted : goal.returns-clause-not_accepted
returns-clause-not_accepted c = λ h. absurd (cc h.goal_accepted)

pub returns-clause-other_width : goal.returns-clause-other_width
returns-clause-other_width c = λ h. omega (arith, (h.fits 0 ready (omega arith)).width)
