use Rattle.std.proofs.Common.{◌≡◌, ◌<◌, arith, inl, refl, rules, false, true}
use Rattle.mt_machine.specs.Start.{IsQuiet}
use Rattle.mt_machine_laws.specs.MachineWorkedRuns.{bare, idle}
use Rattle.mt_core.specs.Arises.{from_start}
use Rattle.mt_core.proofs.Settling.{is_quiet_without_order}
use Rattle.mt_machine_laws.proofs.admit_worked.worked_admissions.Goals as goal

pub returns-clause-can : goal.returns-clause-can
returns-clause-can c = let quiet : IsQuiet bare = search rules in record { arises = from_start (inl quiet); idle = refl; some = omega arith }

pub returns-clause-no_start : goal.returns-clause-no_start
returns-clause-no_start c = λ h.
    let within : 0 < 1 = omega arith in
    let e : false ≡ true = (is_quiet_without_order _ h.arises h.idle).running 0 idle within in
    cc e
