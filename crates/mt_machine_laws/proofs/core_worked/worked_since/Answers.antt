use Rattle.std.proofs.Common.{◌≡◌, ◌<◌, arith, refl, false, ℕ, []}
use Rattle.std.specs.List.{Contains}
use Rattle.mt_machine_laws.specs.MachineWorkedRuns.{entry, idle}
use Rattle.mt_machine_laws.proofs.core_worked.worked_since.Goals as goal

none : (a : ℕ) → Contains [] a → ⊥
none a (k, within, is) = omega (arith, within)

pub returns-clause-newer_entry_since : goal.returns-clause-newer_entry_since
returns-clause-newer_entry_since c = λ h.
    let within : 0 < 1 = omega arith in
    let e : 2 ≡ 1 = (h 0 idle within).entries 0 (entry 0 false) within in
    omega (arith, e)

pub returns-clause-held : goal.returns-clause-held
returns-clause-held c = λ aligned other. refl

pub returns-clause-second_word : goal.returns-clause-second_word
returns-clause-second_word c = λ h. omega (arith, h refl (none 0x100008))

pub returns-clause-keeps : goal.returns-clause-keeps
returns-clause-keeps c = λ aligned. refl

pub returns-clause-changes_the_second : goal.returns-clause-changes_the_second
returns-clause-changes_the_second c = λ h. omega (arith, h refl)

pub returns-clause-a_buffer : goal.returns-clause-a_buffer
returns-clause-a_buffer c = λ h. absurd (cc (h 1 idle (omega arith)))
