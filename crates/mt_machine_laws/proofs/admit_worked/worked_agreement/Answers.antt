use Rattle.std.proofs.Common.{◌≡◌, ◌<◌, arith}
use Rattle.mt_machine_laws.specs.MachineWorkedRuns.{idle, line_of}
use Rattle.mt_machine_laws.proofs.admit_worked.worked_agreement.Goals as goal

pub returns-clause-older : goal.returns-clause-older
returns-clause-older c = λ h.
    let within : 0 < 2 = omega arith in
    let first : 0 < 1 = omega arith in
    let e : 0 ≡ 1 = (h.settled 0 idle within).lines 0 (line_of 0x4000 0) first in
    omega (arith, e)
