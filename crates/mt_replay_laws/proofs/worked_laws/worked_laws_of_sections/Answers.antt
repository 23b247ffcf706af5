use Rattle.std.proofs.Common.{refl, inl, drop, take}
use Rattle.mt_replay.specs.Steps.{course}
use Rattle.mt_replay_laws.specs.WorkedScript.{section_at, section_script}
use Rattle.mt_replay_laws.proofs.Courses.Worked.{stands}
use Rattle.mt_replay_laws.proofs.worked_laws.worked_laws_of_sections.Goals as goal

pub returns-clause-accepted : goal.returns-clause-accepted
returns-clause-accepted c = λ law. law section_script (take 2 (course section_script)) (drop 3 (course section_script)) (section_at 2) (stands (course section_script) 2 0 refl) refl

pub returns-clause-those_registers : goal.returns-clause-those_registers
returns-clause-those_registers c = λ law. law section_script (take 2 (course section_script)) (drop 3 (course section_script)) (section_at 2) (stands (course section_script) 2 0 refl) (inl refl)

pub returns-clause-follow : goal.returns-clause-follow
returns-clause-follow c = λ law. law section_script (take 2 (course section_script)) (drop 4 (course section_script)) (section_at 2) (section_at 3) (stands (course section_script) 2 1 refl)

pub returns-clause-line : goal.returns-clause-line
returns-clause-line c = λ law. law section_script (take 2 (course section_script)) (drop 3 (course section_script)) (section_at 2) (stands (course section_script) 2 0 refl)
