use Rattle.std.proofs.Common.{rules, ◌∷◌, [], arith, refl}
use Rattle.mt_machine.specs.Start.{IsQuiet}
use Rattle.mt_machine_laws.specs.MachineWorkedRuns.{alone, idle, machine_of, whole}
use Rattle.mt_machine_laws.proofs.run_worked_laws.worked_laws_of_comers_and_goers.Goals as goal

quiet : IsQuiet (alone whole)
quiet = search rules

two : IsQuiet (machine_of (idle ∷ whole ∷ []))
two = search rules

pub returns-clause-come : goal.returns-clause-come
returns-clause-come c = λ law. law (alone whole).system quiet.sound

pub returns-clause-come_quiet : goal.returns-clause-come_quiet
returns-clause-come_quiet c = λ law. law (alone whole) quiet

pub returns-clause-gone : goal.returns-clause-gone
returns-clause-gone c = λ law. law (machine_of (idle ∷ whole ∷ [])).system (omega arith) two.sound

pub returns-clause-gone_quiet : goal.returns-clause-gone_quiet
returns-clause-gone_quiet c = λ law. law (machine_of (idle ∷ whole ∷ [])) (omega arith) two

pub returns-clause-words : goal.returns-clause-words
returns-clause-words c = λ law. law (machine_of (idle ∷ whole ∷ [])).system 0x100010 (omega arith) two.sound refl
