use Rattle.std.proofs.Common.{◌≡◌, ◌≢◌, arith, Some}
use Rattle.mt_types_laws.proofs.regs_worked.worked_changes.Goals as goal

pub returns-clause-two_registers : goal.returns-clause-two_registers
returns-clause-two_registers c = λ h. let apart : 0x20e ≢ 0x2ff = λ e. omega (arith, e) in let e : Some 6 ≡ Some 0 = h.others 0x20e apart in absurd (cc e)
