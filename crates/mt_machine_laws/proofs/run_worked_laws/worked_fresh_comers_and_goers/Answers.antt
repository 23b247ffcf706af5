use Rattle.std.proofs.Common.{rules, ◌∷◌, []}
use Rattle.mt_machine_laws.specs.MachineWorkedRuns.{alone, machine_of, whole}
use Rattle.mt_machine_laws.proofs.run_worked_laws.worked_fresh_comers_and_goers.Goals as goal

pub returns-clause-come : goal.returns-clause-come
returns-clause-come c = λ law. law (alone whole).system (search rules)

pub returns-clause-gone : goal.returns-clause-gone
returns-clause-gone c = λ law. law (machine_of (whole ∷ whole ∷ [])).system (search rules)
