use Rattle.std.proofs.Common.{arith, ⊎_elim}
use Rattle.mt_machine.specs.Memory.{Window}
use Rattle.mt_machine_laws.proofs.machine_worked.worked_memory.Goals as goal

none : Window
none = record { base = 0; lines = 0 }

pub returns-clause-window_without_lines : goal.returns-clause-window_without_lines
returns-clause-window_without_lines c = λ h. omega (arith, h.some_lines 0 none (omega arith))

pub returns-clause-within_a_line : goal.returns-clause-within_a_line
returns-clause-within_a_line c = λ h. omega (arith, h.aligned 0 none (omega arith))

pub returns-clause-past_the_end : goal.returns-clause-past_the_end
returns-clause-past_the_end c = λ h. omega (arith, h.bounded 0 none (omega arith))

pub returns-clause-shared_line : goal.returns-clause-shared_line
returns-clause-shared_line c = λ h. ⊎_elim (λ w. omega (arith, w)) (λ w. omega (arith, w)) (h.apart 0 1 none (omega arith) (omega arith))
