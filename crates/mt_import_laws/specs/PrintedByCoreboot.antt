-- What coreboot displays of a processor's MTRRs (coreboot 25.09 and 4.15, src/cpu/x86/mtrr/debug.c, `_display_mtrrs` and what it calls).
--     coreboot_lines leveled tails file      the lines of the registers of a file
use Rattle.std.specs.Prelude.{ℕ, ◌≡◌, ◌≤◌, ◌==◌, ◌&&◌, not, nat_lt, decimal, Bool, true, false, codes, filter, List, [], ◌∷◌, ◌++◌, length, map, slice_index_or, None, Some}
use Rattle.std.specs.List.{list_all}
use Rattle.mt_kinds.specs.Bits.{is_bit_set}
use Rattle.mt_text.specs.Text.{goes_on}
use Rattle.mt_regs.specs.declared.registers.Register.{Register}
use Rattle.mt_regs.specs.declared.registers.Register.TheVariants.{PhysBase, PhysMask, FixedRange, Pat, DefaultType}
use Rattle.mt_regs.specs.RegisterFile.{IsRegisterFile, RegisterFile, pair_at}
use Rattle.mt_regs.specs.Registers.{writable}
use Rattle.mt_regs.specs.Words.{HasWords}
use Rattle.mt_dump.specs.Canon.{value_text}
use Rattle.mt_import.specs.Supplied.{Supplied, supplied_value}
use Rattle.mt_import_laws.specs.Printed.{Agrees, Key, value_in}

abbrev pub fixed_names : List (List ℕ)
fixed_names =
    codes "64K_00000" ∷ codes "16K_80000" ∷ codes "16K_A0000" ∷ codes "4K_C0000" ∷ codes "4K_C8000" ∷ codes "4K_D0000"
    ∷ codes "4K_D8000" ∷ codes "4K_E0000" ∷ codes "4K_E8000" ∷ codes "4K_F0000" ∷ codes "4K_F8000" ∷ []

-- an address follows if V, bit 11 of PhysMask, is set
abbrev pub colon_if : Bool → List ℕ
colon_if true = codes ":"
colon_if false = []

abbrev pub name_of : RegisterFile → Key → List ℕ
name_of file None = codes "IA32_MTRRCAP:"
name_of file (Some (PhysBase n)) = codes "PHYBASE" ++ (decimal n ++ colon_if (is_bit_set (pair_at file.pairs n).1 11))
name_of file (Some (PhysMask n)) = codes "PHYMASK" ++ (decimal n ++ codes ":")
name_of file (Some (FixedRange place)) = codes "IA32_MTRR_FIX" ++ slice_index_or fixed_names place []
name_of file (Some Pat) = []
name_of file (Some DefaultType) = codes "IA32_MTRR_DEF_TYPE:"

-- the level, where the console shows levels
abbrev pub level_text : Bool → List ℕ
level_text true = codes "[DEBUG]  "
level_text false = []

-- `0x%016llx:`
abbrev pub number_word : ℕ → List ℕ
number_word value = codes "0x" ++ (value_text value ++ codes ":")

-- the value, the name, and behind it what is made from the value
abbrev pub display_line : Bool → ℕ → List ℕ → List ℕ → List ℕ
display_line leveled value name tail = level_text leveled ++ (number_word value ++ (codes " " ++ (name ++ tail)))

abbrev pub Tails : Type 0
Tails = Key → List ℕ

abbrev pub line_of : Bool → Tails → RegisterFile → Key → List ℕ
line_of leveled tails file key = display_line leveled (value_in file key) (name_of file key) (tails key)

abbrev pub is_fixed : Register → Bool
is_fixed (PhysBase n) = false
is_fixed (PhysMask n) = false
is_fixed (FixedRange place) = true
is_fixed Pat = false
is_fixed DefaultType = false

abbrev pub is_of_pair : Register → Bool
is_of_pair (PhysBase n) = true
is_of_pair (PhysMask n) = true
is_of_pair (FixedRange place) = false
is_of_pair Pat = false
is_of_pair DefaultType = false

-- all registers but the PAT
abbrev pub displayed : RegisterFile → List Key
displayed file = None ∷ Some DefaultType ∷ map Some (filter is_fixed (writable file) ++ filter is_of_pair (writable file))

abbrev pub coreboot_lines : Bool → Tails → RegisterFile → List (List ℕ)
coreboot_lines leveled tails file = map (line_of leveled tails file) (displayed file)

-- a printed byte that begins no comment
abbrev pub is_tail_byte : ℕ → Bool
is_tail_byte byte = nat_lt 31 byte && nat_lt byte 127 && not (byte == 35)

-- each begins with a blank, if it isn't empty
abbrev pub AreTails : Tails → Type 0
AreTails tails = (key : Key) → (length (tails key) ≤ 200) × (goes_on (tails key) ≡ false) × (list_all is_tail_byte (tails key) ≡ true)

-- Any register file can be displayed. Words have to supply its width and its PAT, and no value but the file's.
pub record SuitsCoreboot (tails : Tails) (file : RegisterFile) (supplied : Supplied) : Type 0 where
  pub are_tails : AreTails tails
  pub is_file : IsRegisterFile file
  pub has_words : HasWords file
  pub agrees : Agrees supplied file
  pub width : supplied.width ≡ Some file.width
  pub pat : supplied_value supplied 0x277 ≡ Some file.pat
