use Rattle.std.proofs.Common.{arith, false}
use Rattle.mt_machine_laws.specs.MachineWorkedRuns.{entry, line_of}
use Rattle.mt_machine_laws.proofs.machine_worked.worked_settled.Goals as goal

pub returns-clause-older_line : goal.returns-clause-older_line
returns-clause-older_line c = λ h. omega (arith, h.lines 1 (line_of 0 0) (omega arith))

pub returns-clause-older_buffer : goal.returns-clause-older_buffer
returns-clause-older_buffer c = λ h. omega (arith, h.buffers 0 (line_of 0 0) (omega arith))

pub returns-clause-older_entry : goal.returns-clause-older_entry
returns-clause-older_entry c = λ h. omega (arith, h.entries 0 (entry 0 false) (omega arith))
