-- Files on the way to another one, and the writes that led to them (own).
use Rattle.std.specs.Prelude.{◌≡◌, ◌≢◌, ℕ, ◌-◌, ◌^◌, ◌<◌, ◌≤◌, ◌⊎◌, true, false, List, [], ◌∷◌, ◌++◌, Some}
use Rattle.mt_kinds.specs.Bits.{is_bit_set}
use Rattle.mt_regs.specs.declared.registers.Register.{Register}
use Rattle.mt_regs.specs.declared.registers.Register.TheVariants.{DefaultType}
use Rattle.mt_regs.specs.RegisterFile.{IsRegisterFile, RegisterFile, is_enabled}
use Rattle.mt_regs.specs.Registers.{number_of, register_of, value_at, written}
use Rattle.mt_regs.specs.StartFiles.{SameKind}
use Rattle.mt_mend.specs.declared.write.Write.{Write}
use Rattle.mt_mend.specs.Writes.{AreNamed, AreWrites}

-- a file, and the writes that led to it
pub record Course : Type 0 where
  pub file : RegisterFile
  pub writes : List Write

abbrev pub course : RegisterFile → List Write → Course
course f writes = record { file = f; writes = writes }

abbrev pub HasRegister : RegisterFile → ℕ → Type 0
HasRegister f number = (r : Register) × (register_of f number ≡ Some r)

-- one write more
pub record IsWritten (before after : Course) (w : Write) : Type 0 where
  pub file : written before.file w.number w.value ≡ Some after.file
  pub writes : after.writes ≡ before.writes ++ w ∷ []

-- a register's bit 11 is cleared, if it was set
abbrev pub IsSwitchedOff : Course → Course → ℕ → Type 0
IsSwitchedOff before after number =
    ((v : ℕ) × (value_at before.file number ≡ Some v) × (is_bit_set v 11 ≡ true) × IsWritten before after (record { number = number; value = v - 2 ^ 11 }))
    ⊎ ((after ≡ before) × ((v : ℕ) → value_at before.file number ≡ Some v → is_bit_set v 11 ≡ false))

-- a register gets the value that it has in another file, if that isn't its own
abbrev pub IsCopied : RegisterFile → Course → Course → ℕ → Type 0
IsCopied new before after number =
    ((v : ℕ) × (value_at new number ≡ Some v) × (value_at before.file number ≢ value_at new number) × IsWritten before after (record { number = number; value = v }))
    ⊎ ((after ≡ before) × (value_at before.file number ≡ value_at new number))

-- writes from one file towards another of its kind
pub record IsTowards (old new : RegisterFile) (now : Course) : Type 0 where
  pub old_file : IsRegisterFile old
  pub old_kind : SameKind old new
  pub is_file : IsRegisterFile now.file
  pub kind : SameKind now.file new
  pub writes : AreWrites old now.writes now.file
  pub named : AreNamed old new now.writes

-- The registers below a number have their new values, and those from there on their old ones, but E is clear.
pub record IsOnWay (old new : RegisterFile) (now : Course) (number : ℕ) : Type 0 where
  pub towards : IsTowards old new now
  pub disabled : is_enabled now.file ≡ false
  pub done : (m : ℕ) → m < number → value_at now.file m ≡ value_at new m
  pub left : (m : ℕ) → number ≤ m → m ≢ number_of DefaultType → value_at now.file m ≡ value_at old m
