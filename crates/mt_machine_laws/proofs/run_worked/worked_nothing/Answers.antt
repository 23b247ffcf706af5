use Rattle.std.proofs.Common.{arith, ap}
use Rattle.mt_regs.specs.RegisterFile.{RegisterFile}
use Rattle.mt_machine_laws.specs.MachineWorkedRuns.{idle}
use Rattle.mt_machine_laws.proofs.run_worked.worked_nothing.Goals as goal

pub returns-clause-other_file : goal.returns-clause-other_file
returns-clause-other_file c = λ h. omega (arith, ap (λ (f : RegisterFile). f.default_type) h.file)

pub returns-clause-line : goal.returns-clause-line
returns-clause-line c = λ h. absurd (cc h.lines)

pub returns-clause-buffer : goal.returns-clause-buffer
returns-clause-buffer c = λ h. absurd (cc h.buffers)

pub returns-clause-entry : goal.returns-clause-entry
returns-clause-entry c = λ h. absurd (cc h.entries)

pub returns-clause-one_too_few : goal.returns-clause-one_too_few
returns-clause-one_too_few c = λ h. absurd (cc (h.broadcast.taken 1 idle (omega arith)))
