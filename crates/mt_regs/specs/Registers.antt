-- The writable registers of a file, their numbers and their values: Intel SDM, volume 3A, chapter Memory Cache Control,
-- sections Fixed Range MTRRs, Variable Range MTRRs, IA32_PAT MSR and IA32_MTRR_DEF_TYPE MSR. That a processor without FIX
-- hasn't the fixed-range registers is this project's choice (own).
use Rattle.std.specs.Prelude.{◌≡◌, ◌≢◌, true, ◌==◌, slice_set, Option, Some, ℕ, zero, suc, ◌+◌, ◌*◌, ◌<◌, List, [], ◌∷◌, ◌++◌, length, map, if◌then◌else◌, slice_index}
use Rattle.std.specs.List.{find}
use Rattle.std.specs.Option.{option_map}
use Rattle.mt_regs.specs.declared.registers.Register.{Register}
use Rattle.mt_regs.specs.declared.registers.Register.TheVariants.{PhysBase, PhysMask, FixedRange, Pat, DefaultType}
use Rattle.mt_regs.specs.RegisterFile.{RegisterFile, pair_count, pair_at, has_fixed}

-- the registers of count pairs from the first on, base before mask
abbrev pub pair_registers : ℕ → ℕ → List Register
pair_registers first zero = []
pair_registers first (suc count) = PhysBase first ∷ PhysMask first ∷ pair_registers (first + 1) count

abbrev pub fixed_registers : List Register
fixed_registers = map FixedRange (0 ∷ 1 ∷ 2 ∷ 3 ∷ 4 ∷ 5 ∷ 6 ∷ 7 ∷ 8 ∷ 9 ∷ 10 ∷ [])

-- the fixed-range registers that the file has
abbrev pub fixed_part_of : RegisterFile → List Register
fixed_part_of f = if has_fixed f then fixed_registers else []

-- the writable registers in ascending order of their numbers
abbrev pub writable : RegisterFile → List Register
writable f = pair_registers 0 (pair_count f) ++ fixed_part_of f ++ Pat ∷ DefaultType ∷ []

abbrev pub fixed_numbers : List ℕ
fixed_numbers = 0x250 ∷ 0x258 ∷ 0x259 ∷ 0x268 ∷ 0x269 ∷ 0x26a ∷ 0x26b ∷ 0x26c ∷ 0x26d ∷ 0x26e ∷ 0x26f ∷ []

abbrev pub number_of : Register → ℕ
number_of (PhysBase n) = 0x200 + 2 * n
number_of (PhysMask n) = 0x201 + 2 * n
number_of (FixedRange place) = slice_index fixed_numbers place
number_of Pat = 0x277
number_of DefaultType = 0x2ff

abbrev pub value_of : RegisterFile → Register → ℕ
value_of f (PhysBase n) = (pair_at f.pairs n).0
value_of f (PhysMask n) = (pair_at f.pairs n).1
value_of f (FixedRange place) = slice_index f.fixed place
value_of f Pat = f.pat
value_of f DefaultType = f.default_type

-- the file has the register
abbrev pub IsWithin : RegisterFile → Register → Type 0
IsWithin f (PhysBase n) = n < length f.pairs
IsWithin f (PhysMask n) = n < length f.pairs
IsWithin f (FixedRange place) = (place < 11) × (has_fixed f ≡ true)
IsWithin f Pat = Unit {0}
IsWithin f DefaultType = Unit {0}

-- a place in the list of fixed-range registers is below eleven
abbrev pub HasNumber : Register → Type 0
HasNumber (PhysBase n) = Unit {0}
HasNumber (PhysMask n) = Unit {0}
HasNumber (FixedRange place) = place < 11
HasNumber Pat = Unit {0}
HasNumber DefaultType = Unit {0}

-- Each register's number is below this: three hexadecimal digits write it.
abbrev pub number_limit : ℕ
number_limit = 0x1000

abbrev pub HasThreeDigits : ℕ → Type 0
HasThreeDigits number = number < number_limit

-- the writable register that has a number
abbrev pub register_of : RegisterFile → ℕ → Option Register
register_of f number = find (λ r. number_of r == number) (writable f)

-- the value that is read at a number
abbrev pub value_at : RegisterFile → ℕ → Option ℕ
value_at f number = if number == 0xfe then Some f.capabilities else option_map (value_of f) (register_of f number)

-- the file with one register changed
abbrev pub with_value : RegisterFile → Register → ℕ → RegisterFile
with_value f (PhysBase n) v = record f { pairs = slice_set f.pairs n (v, (pair_at f.pairs n).1) }
with_value f (PhysMask n) v = record f { pairs = slice_set f.pairs n ((pair_at f.pairs n).0, v) }
with_value f (FixedRange place) v = record f { fixed = slice_set f.fixed place v }
with_value f Pat v = record f { pat = v }
with_value f DefaultType v = record f { default_type = v }

-- the file after a write at a number, where a writable register has it
abbrev pub written : RegisterFile → ℕ → ℕ → Option RegisterFile
written f number v = option_map (λ r. with_value f r v) (register_of f number)

-- the new file differs from the old in the value at one number
pub record ChangesOnly (old new : RegisterFile) (number v : ℕ) : Type 0 where
  pub changed : value_at new number ≡ Some v
  pub others : (other : ℕ) → other ≢ number → value_at new other ≡ value_at old other
  pub width : new.width ≡ old.width
