-- What EDK2 prints of a processor's MTRRs, up to `Memory Ranges:` (EDK2 2022.11, UefiCpuPkg/Library/MtrrLib/MtrrLib.c, MtrrDebugPrintAllMtrrsWorker).
--     edk2_lines file      the lines
use Rattle.std.specs.Prelude.{ℕ, ◌≡◌, ◌+◌, ◌*◌, ◌/◌, ◌%◌, ◌<◌, false, Bool, codes, List, [], ◌∷◌, ◌++◌, length, map, if◌then◌else◌, Some, None}
use Rattle.std.specs.Int.{to_be_bytes, w64}
use Rattle.hex.specs.Hex.{encode_upper}
use Rattle.mt_kinds.specs.Bits.{is_bit_set}
use Rattle.mt_regs.specs.declared.registers.Register.TheVariants.{PhysBase, PhysMask, FixedRange, Pat, DefaultType}
use Rattle.mt_regs.specs.RegisterFile.{IsRegisterFile, RegisterFile, pair_at}
use Rattle.mt_regs.specs.Registers.{fixed_registers}
use Rattle.mt_regs.specs.Words.{HasWords}
use Rattle.mt_import.specs.Supplied.{Supplied, supplied_value}
use Rattle.mt_import_laws.specs.Printed.{Agrees, Key, value_in}

-- `%02d`
abbrev pub two_digits : ℕ → List ℕ
two_digits number = (48 + number / 10) ∷ (48 + number % 10) ∷ []

-- `%016lx`, which EDK2 prints in capitals
abbrev pub sixteen_digits : ℕ → List ℕ
sixteen_digits value = encode_upper (to_be_bytes w64 value)

-- `MTRR Default Type: %016lx`
abbrev pub default_line : ℕ → List ℕ
default_line value = codes "MTRR Default Type: " ++ sixteen_digits value

-- `Fixed MTRR[%02d]   : %016lx`
abbrev pub fixed_line : ℕ → ℕ → List ℕ
fixed_line place value = codes "Fixed MTRR[" ++ (two_digits place ++ (codes "]   : " ++ sixteen_digits value))

-- `Variable MTRR[%02d]: Base=%016lx Mask=%016lx`
abbrev pub pair_line : ℕ → ℕ × ℕ → List ℕ
pair_line n pair = codes "Variable MTRR[" ++ (two_digits n ++ (codes "]: Base=" ++ (sixteen_digits pair.0 ++ (codes " Mask=" ++ sixteen_digits pair.1))))

-- the line of a register that has one of its own
abbrev pub own_line : RegisterFile → Key → List ℕ
own_line file None = []
own_line file (Some (PhysBase n)) = []
own_line file (Some (PhysMask n)) = []
own_line file (Some (FixedRange place)) = fixed_line place (value_in file (Some (FixedRange place)))
own_line file (Some Pat) = []
own_line file (Some DefaultType) = default_line file.default_type

-- V, bit 11 of PhysMask
abbrev pub is_valid : ℕ × ℕ → Bool
is_valid pair = is_bit_set pair.1 11

-- the pairs whose V is set, of which the first counted has this number
abbrev pub valid_from : ℕ → List (ℕ × ℕ) → List ℕ
valid_from first [] = []
valid_from first (pair ∷ pairs) = if is_valid pair then first ∷ valid_from (first + 1) pairs else valid_from (first + 1) pairs

abbrev pub pair_lines : RegisterFile → List (List ℕ)
pair_lines file = map (λ n. pair_line n (pair_at file.pairs n)) (valid_from 0 file.pairs)

abbrev pub no_pair_line : List ℕ
no_pair_line = codes "Variable MTRR    : None."

abbrev pub or_none : List (List ℕ) → List (List ℕ)
or_none [] = no_pair_line ∷ []
or_none (line ∷ lines) = line ∷ lines

-- Without fixed ranges EDK2 prints zeros for them.
abbrev pub edk2_lines : RegisterFile → List (List ℕ)
edk2_lines file = codes "MTRR Settings:" ∷ codes "=============" ∷ (map (own_line file) (Some DefaultType ∷ map Some fixed_registers) ++ or_none (pair_lines file))

-- Words have to supply the width, 0FEH, the PAT and each pair without a line, and no value but the file's.
pub record SuitsEdk2 (file : RegisterFile) (supplied : Supplied) : Type 0 where
  pub is_file : IsRegisterFile file
  pub has_words : HasWords file
  pub agrees : Agrees supplied file
  pub width : supplied.width ≡ Some file.width
  pub capabilities : supplied_value supplied 0xfe ≡ Some file.capabilities
  pub pat : supplied_value supplied 0x277 ≡ Some file.pat
  pub bases : (n : ℕ) → n < length file.pairs → is_valid (pair_at file.pairs n) ≡ false → supplied_value supplied (0x200 + 2 * n) ≡ Some (pair_at file.pairs n).0
  pub masks : (n : ℕ) → n < length file.pairs → is_valid (pair_at file.pairs n) ≡ false → supplied_value supplied (0x201 + 2 * n) ≡ Some (pair_at file.pairs n).1
