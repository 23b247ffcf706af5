use Rattle.std.proofs.Common.{arith}
use Rattle.mt_machine_laws.specs.MachineWorkedRuns.{idle}
use Rattle.mt_machine_laws.proofs.worked_events.worked_coordinator.Goals as goal

pub returns-clause-under_way : goal.returns-clause-under_way
returns-clause-under_way c = λ h. absurd (cc h.0)

pub returns-clause-no_file : goal.returns-clause-no_file
returns-clause-no_file c = λ h. omega (arith, h.1.all_fixed)

pub returns-clause-not_accepted : goal.returns-clause-not_accepted
returns-clause-not_accepted c = λ h. absurd (cc h.2)

pub returns-clause-other_width : goal.returns-clause-other_width
returns-clause-other_width c = λ h. omega (arith, (h.3 0 idle (omega arith)).width)

pub returns-clause-other_capabilities : goal.returns-clause-other_capabilities
returns-clause-other_capabilities c = λ h. omega (arith, (h.3 0 idle (omega arith)).capabilities)
