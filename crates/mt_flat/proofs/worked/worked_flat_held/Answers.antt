use Rattle.std.proofs.Common.{ℕ, [], ap, arith, length, refl}
use Rattle.std.specs.List.{Contains}
use Rattle.mt_machine_laws.specs.MachineWorkedRuns.{one_window}
use Rattle.mt_flat.proofs.Seeing.{zero_word}
use Rattle.mt_flat.proofs.worked.worked_flat_held.Goals as goal

none : (a : ℕ) → Contains [] a → ⊥
none a (k, within, is) = omega (arith, within)

pub returns-clause-held : goal.returns-clause-held
returns-clause-held c = record { nothing = λ k. refl; held = λ a whole other. zero_word one_window a }

pub returns-clause-loaded : goal.returns-clause-loaded
returns-clause-loaded c = λ h. omega (arith, h.held 0x100008 refl (none 0x100008))

pub returns-clause-still_pending : goal.returns-clause-still_pending
returns-clause-still_pending c = λ h. omega (arith, ap length (h.nothing 0))
