use Rattle.std.proofs.Common.{◌≤◌, false, arith}
use Rattle.mt_machine_laws.specs.MachineWorkedRuns.{entry, line_of}
use Rattle.mt_machine_laws.proofs.run_worked.worked_fresh.Goals as goal

pub returns-clause-fresh : goal.returns-clause-fresh
returns-clause-fresh c = record { lines = λ k d within. omega arith; buffers = λ k d within. omega arith; entries = λ k d within. omega arith }

pub returns-clause-older_line : goal.returns-clause-older_line
returns-clause-older_line c = λ h. let older : 1 ≤ 0 = h.lines 0 (line_of 0x4000 0) (omega arith) in omega (arith, older)

pub returns-clause-older_buffer : goal.returns-clause-older_buffer
returns-clause-older_buffer c = λ h. let older : 1 ≤ 0 = h.buffers 0 (line_of 0x4000 0) (omega arith) in omega (arith, older)

pub returns-clause-older_entry : goal.returns-clause-older_entry
returns-clause-older_entry c = λ h. let older : 1 ≤ 0 = h.entries 0 (entry 1 false) (omega arith) in omega (arith, older)
