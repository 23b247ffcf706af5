use Rattle.std.proofs.Common.{rules, arith, refl, ◌∷◌, []}
use Rattle.mt_machine.specs.ComingAndGoing.{reset, with_newcomer}
use Rattle.mt_machine.specs.Machine.{Calls, IsEnabled}
use Rattle.mt_machine.specs.Start.{IsQuiet}
use Rattle.mt_machine.specs.System.{IsSound, System}
use Rattle.mt_machine_laws.specs.MachineWorkedRuns.{alone, bare_file, whole}
use Rattle.std.specs.Prelude.{length}
use Rattle.mt_laws.specs.Counts.{IsEachOnce}
use Rattle.mt_flat.specs.Seen.{IsFlatOf}
use Rattle.mt_flat.specs.WorkedRuns.{beside, combiner, two_values}
use Rattle.mt_flat.proofs.worked.worked_flat_comers.Goals as goal

sound : IsSound two_values.system
sound = search rules

quiet : IsQuiet combiner
quiet = search rules

enabled : IsEnabled (with_newcomer combiner) (Calls (bare_file 0x806))
enabled = search rules

once : IsEachOnce (length (reset combiner.system).processors) (0 ∷ 1 ∷ [])
once = search rules

stands : (s : System) → IsFlatOf s (beside s)
stands s = record { values = λ a whole. refl; pending = λ k. refl }

pub returns-clause-come : goal.returns-clause-come
returns-clause-come c = λ law. law (alone whole).system (beside (alone whole).system) (stands (alone whole).system)

pub returns-clause-admitted : goal.returns-clause-admitted
returns-clause-admitted c = λ law. law combiner (beside combiner.system) (bare_file 0x806) (0 ∷ 1 ∷ []) quiet enabled once (stands combiner.system)

pub returns-clause-gone : goal.returns-clause-gone
returns-clause-gone c = λ law. law two_values.system (beside two_values.system) (omega arith) sound (stands two_values.system)
