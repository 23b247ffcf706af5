use Rattle.std.proofs.Common.{◌≡◌, ap, arith, refl, sym, length, Option}
use Rattle.std.specs.Option.{option_map_or}
use Rattle.mt_machine.specs.Machine.{Machine}
use Rattle.mt_machine.specs.System.{Processor, buffers_of}
use Rattle.mt_machine_laws.specs.MachineWorkedRuns.{bare_file}
use Rattle.mt_machine_laws.proofs.admit_worked.worked_given_up.Goals as goal

pub returns-clause-taken : goal.returns-clause-taken
returns-clause-taken c = record { fences = refl; blank = λ p at. sym (ap (λ (o : Option Processor). option_map_or (λ q. q.file) o (bare_file 0)) at) }

pub returns-clause-still_combined : goal.returns-clause-still_combined
returns-clause-still_combined c = λ h. let e : 2 ≡ 0 = ap (λ (m : Machine). length (buffers_of m.system 0)) h.fences in omega (arith, e)
