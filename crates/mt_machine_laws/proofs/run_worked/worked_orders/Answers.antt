use Rattle.std.proofs.Common.{arith, refl}
use Rattle.mt_regs.specs.declared.registers.Register.TheVariants.{Pat}
use Rattle.mt_machine_laws.specs.MachineWorkedRuns.{idle}
use Rattle.mt_machine_laws.proofs.run_worked.worked_orders.Goals as goal

pub returns-clause-not_written : goal.returns-clause-not_written
returns-clause-not_written c = λ h. omega (arith, (h.each 0 idle (omega arith)).written 1 refl 0 Pat (omega arith))

pub returns-clause-other_width : goal.returns-clause-other_width
returns-clause-other_width c = λ h. omega (arith, (h.each 0 idle (omega arith)).fits.width)

pub returns-clause-no_file : goal.returns-clause-no_file
returns-clause-no_file c = λ h. omega (arith, h.goal_file.all_fixed)

pub returns-clause-not_accepted : goal.returns-clause-not_accepted
returns-clause-not_accepted c = λ h. absurd (cc h.goal_accepted)
