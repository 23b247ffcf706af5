use Rattle.std.proofs.Common.{rules, ◌∷◌, [], refl}
use Rattle.mt_machine.specs.declared.control.Control.TheVariants.{Cr3}
use Rattle.mt_machine.specs.declared.op.Op.TheVariants.{Load}
use Rattle.mt_machine.specs.System.{IsSound}
use Rattle.mt_machine_laws.specs.MachineWorkedRuns.{alone, bare_file, whole}
use Rattle.mt_machine_laws.proofs.run_worked_laws.worked_laws_of_sound_systems.Goals as goal

sound : IsSound (alone whole).system
sound = search rules

pub returns-clause-access : goal.returns-clause-access
returns-clause-access c = λ law. law (alone whole).system 0 (Load 0x1008) sound

pub returns-clause-control : goal.returns-clause-control
returns-clause-control c = λ law. law (alone whole).system 0 Cr3 sound (λ p at. tt)

pub returns-clause-drained : goal.returns-clause-drained
returns-clause-drained c = λ law. law (alone whole).system 0 sound

pub returns-clause-low : goal.returns-clause-low
returns-clause-low c = λ law. law (alone whole).system sound

pub returns-clause-written_back : goal.returns-clause-written_back
returns-clause-written_back c = λ law. law (alone whole).system 0 whole 0x100008 6 sound refl refl

pub returns-clause-snooping : goal.returns-clause-snooping
returns-clause-snooping c = λ law. law (alone whole).system 0 sound

pub returns-clause-words : goal.returns-clause-words
returns-clause-words c = λ law. law (alone whole).system (bare_file 0x806) (0 ∷ []) 0x100010 sound refl
