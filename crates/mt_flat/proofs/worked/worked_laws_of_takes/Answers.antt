use Rattle.std.proofs.Common.{rules, ◌∷◌, [], length, refl}
use Rattle.mt_machine.specs.Machine.{Calls, IsEnabled}
use Rattle.mt_machine.specs.Start.{IsQuiet}
use Rattle.mt_machine_laws.specs.MachineWorkedRuns.{bare_file}
use Rattle.mt_laws.specs.Counts.{IsEachOnce}
use Rattle.mt_flat.specs.Seen.{IsFlatOf}
use Rattle.mt_flat.specs.WorkedRuns.{beside, both_combine}
use Rattle.mt_flat.proofs.worked.worked_laws_of_takes.Goals as goal

quiet : IsQuiet both_combine
quiet = search rules

enabled : IsEnabled both_combine (Calls (bare_file 0x806))
enabled = search rules

each : IsEachOnce (length both_combine.system.processors) (1 ∷ 0 ∷ [])
each = search rules

stands : IsFlatOf both_combine.system (beside both_combine.system)
stands = record { values = λ a whole. refl; pending = λ k. refl }

pub returns : goal.returns
returns c = λ law. law both_combine (beside both_combine.system) (bare_file 0x806) (1 ∷ 0 ∷ []) quiet enabled each stands
