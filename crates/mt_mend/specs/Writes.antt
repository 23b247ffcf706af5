-- Writes that make of one file another: Intel SDM, volume 3A, chapter Memory Cache Control, section MemTypeSet() Function:
-- E of IA32_MTRR_DEF_TYPE is clear while range registers change. That V of a pair is clear while the pair changes follows
-- its section Variable Range MTRRs.
--     AreWrites old writes new      the writes may be made one after the other, and lead from one file to the other
--     AreNamed old new writes       only registers that differ are written, and those with the switches
use Rattle.std.specs.Prelude.{◌≡◌, ◌≢◌, ℕ, ◌+◌, ◌^◌, ◌<◌, ◌⊎◌, false, List, [], ◌∷◌, length, Some}
use Rattle.std.specs.List.{All}
use Rattle.mt_ranges.specs.Match.{is_valid}
use Rattle.mt_regs.specs.declared.registers.Register.TheVariants.{DefaultType, PhysBase, PhysMask}
use Rattle.mt_regs.specs.RegisterFile.{RegisterFile, is_enabled, pair_at}
use Rattle.mt_regs.specs.Registers.{number_of, value_at, written}
use Rattle.mt_mend.specs.declared.write.Write.{Write}

-- E is clear when another register is written, and V of a pair when a register of the pair is. E and V are cleared alone.
pub record MayBeWritten (f : RegisterFile) (w : Write) : Type 0 where
  pub default : w.number ≡ number_of DefaultType → (is_enabled f ≡ false) ⊎ (w.value + 2 ^ 11 ≡ f.default_type)
  pub others : w.number ≢ number_of DefaultType → is_enabled f ≡ false
  pub base : (n : ℕ) → n < length f.pairs → w.number ≡ number_of (PhysBase n) → is_valid (pair_at f.pairs n) ≡ false
  pub mask : (n : ℕ) → n < length f.pairs → w.number ≡ number_of (PhysMask n)
      → (is_valid (pair_at f.pairs n) ≡ false) ⊎ (w.value + 2 ^ 11 ≡ (pair_at f.pairs n).1)

abbrev pub AreWrites : RegisterFile → List Write → RegisterFile → Type 0
AreWrites f [] new = f ≡ new
AreWrites f (w ∷ ws) new = (g : RegisterFile) × MayBeWritten f w × (written f w.number w.value ≡ Some g) × AreWrites g ws new

-- the register at a number differs, or it has the switch of some that do
abbrev pub IsNamed : RegisterFile → RegisterFile → ℕ → Type 0
IsNamed old new number =
    (value_at old number ≢ value_at new number)
    ⊎ (((number ≡ number_of DefaultType) × (old ≢ new)) ⊎ ((n : ℕ) × (number ≡ number_of (PhysMask n)) × (pair_at old.pairs n ≢ pair_at new.pairs n)))

abbrev pub AreNamed : RegisterFile → RegisterFile → List Write → Type 0
AreNamed old new writes = All (λ w. IsNamed old new w.number) writes
