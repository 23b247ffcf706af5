-- The registers whose values differ in two files (own). A file that hasn't a register has no value at its number.
--     AreDifferences old new list      all of them, each with both values, in ascending order of their numbers
use Rattle.std.specs.Prelude.{◌≡◌, ◌≢◌, ℕ, ◌+◌, ◌<◌, ◌≤◌, List, [], ◌∷◌}
use Rattle.mt_regs.specs.RegisterFile.{RegisterFile}
use Rattle.mt_regs.specs.Registers.{value_at}
use Rattle.mt_explain.specs.declared.difference.Difference.{Difference}

-- the values at one number, which differ
pub record IsDifference (old new : RegisterFile) (d : Difference) : Type 0 where
  pub old_value : d.old ≡ value_at old d.msr
  pub new_value : d.new ≡ value_at new d.msr
  pub differs : d.old ≢ d.new

-- from one number up to another the files have the same values
abbrev pub AgreeAt : RegisterFile → RegisterFile → ℕ → ℕ → Type 0
AgreeAt old new from to = (number : ℕ) → from ≤ number → number < to → value_at old number ≡ value_at new number

-- all differences at a number and at higher ones
abbrev pub AreDifferencesFrom : RegisterFile → RegisterFile → ℕ → List Difference → Type 0
AreDifferencesFrom old new from [] = (number : ℕ) → from ≤ number → value_at old number ≡ value_at new number
AreDifferencesFrom old new from (d ∷ ds) =
    (from ≤ d.msr) × AgreeAt old new from d.msr × IsDifference old new d × AreDifferencesFrom old new (d.msr + 1) ds

abbrev pub AreDifferences : RegisterFile → RegisterFile → List Difference → Type 0
AreDifferences old new list = AreDifferencesFrom old new 0 list
