-- What x86info prints of a processor's MTRRs with --mtrr, and of the sizes of its addresses with --addr
-- (Debian's x86info 1.31pre, the functions that print `MTRR registers:` and `Address sizes`).
--     x86info_lines print file      the lines
--     cpu_lines k cpus      the lines of all processors
use Rattle.std.specs.Prelude.{ℕ, ◌≡◌, ◌≤◌, ◌<◌, ◌+◌, ◌*◌, ◌-◌, ◌==◌, ◌&&◌, min, not, nat_lt, decimal, Bool, true, false, codes, List, [], ◌∷◌, ◌++◌, length, map, Option, None, Some}
use Rattle.std.specs.List.{AllByRecursion, list_all}
use Rattle.mt_text.specs.Text.{goes_on}
use Rattle.mt_regs.specs.declared.registers.Register.{Register}
use Rattle.mt_regs.specs.declared.registers.Register.TheVariants.{PhysBase, PhysMask, FixedRange, Pat, DefaultType}
use Rattle.mt_regs.specs.RegisterFile.{IsRegisterFile, RegisterFile, has_fixed, pair_at}
use Rattle.mt_regs.specs.Registers.{pair_registers, value_of}
use Rattle.mt_regs.specs.Words.{HasWords}
use Rattle.mt_dump.specs.Canon.{value_text}
use Rattle.mt_dump.specs.Dumps.{IsDump}
use Rattle.mt_import.specs.Supplied.{Supplied, supplied_value}
use Rattle.mt_import_laws.specs.Printed.{Agrees, Key, dump_of_all, number_at, value_in}
use Rattle.mt_import_laws.specs.PrintedByInteltool.{AreNames, Names}
use Rattle.mt_import_laws.specs.PrintedByRdmsr.{hex_text}

-- the names behind `MTRR`, what stands behind values, and the bits of a virtual address with --addr
pub record Print : Type 0 where
  pub names : Names
  pub fields : Key → List ℕ
  pub virtual : Option ℕ

-- ---- a register

-- of the fixed-range registers from D0000 on
abbrev pub is_bare : Key → Bool
is_bare None = false
is_bare (Some (PhysBase n)) = false
is_bare (Some (PhysMask n)) = false
is_bare (Some (FixedRange place)) = nat_lt 4 place
is_bare (Some Pat) = false
is_bare (Some DefaultType) = false

-- `0x%x:`, or `(0x%x):`
abbrev pub number_text : Bool → ℕ → List ℕ
number_text true number = codes "0x" ++ (hex_text number ++ codes ":")
number_text false number = codes "(0x" ++ (hex_text number ++ codes "):")

-- a register's name and number in front of what follows
abbrev pub named : Names → Key → List ℕ → List ℕ
named names key rest = codes "MTRR" ++ (names key ++ (codes " " ++ (number_text (is_bare key) (number_at key) ++ (codes " " ++ rest))))

-- A register that can't be read has no value and no end of its line.
abbrev pub behind_names : Names → List Key → Key → List ℕ → List ℕ
behind_names names [] key rest = named names key rest
behind_names names (unread ∷ others) key rest = named names unread (behind_names names others key rest)

-- `0x%016llx`, and fields that are made from the value
abbrev pub value_and_fields : Print → RegisterFile → Key → List ℕ
value_and_fields print file key = codes "0x" ++ (value_text (value_in file key) ++ print.fields key)

abbrev pub line_behind : Print → RegisterFile → List Key → Key → List ℕ
line_behind print file unread key = behind_names print.names unread key (value_and_fields print file key)

abbrev pub line_of : Print → RegisterFile → Key → List ℕ
line_of print file key = line_behind print file [] key

-- ---- all registers

-- It asks for eight pairs, whatever the processor has.
abbrev pub read_count : RegisterFile → ℕ
read_count file = min 8 (length file.pairs)

abbrev pub read_pairs : RegisterFile → List Register
read_pairs file = pair_registers 0 (read_count file)

abbrev pub unread_pairs : RegisterFile → List Register
unread_pairs file = pair_registers (read_count file) (8 - read_count file)

-- It doesn't ask for that of C0000.
abbrev pub later_fixed : List Register
later_fixed = map FixedRange (1 ∷ 2 ∷ 4 ∷ 5 ∷ 6 ∷ 7 ∷ 8 ∷ 9 ∷ 10 ∷ [])

-- the registers that aren't read in front of the first that is, behind the pairs: without FIX the fixed-range registers are among them
abbrev pub unread : Bool → RegisterFile → List Key
unread true file = map Some (unread_pairs file)
unread false file = map Some (unread_pairs file ++ FixedRange 0 ∷ later_fixed)

abbrev pub first_behind : Bool → Key
first_behind true = Some (FixedRange 0)
first_behind false = Some DefaultType

abbrev pub last_keys : Bool → List Key
last_keys true = map Some (later_fixed ++ DefaultType ∷ [])
last_keys false = []

-- ---- the lines

-- `Address sizes : %u bits physical, %u bits virtual`
abbrev pub size_line : ℕ → ℕ → List ℕ
size_line width virtual = codes "Address sizes : " ++ (decimal width ++ (codes " bits physical, " ++ (decimal virtual ++ codes " bits virtual")))

abbrev pub size_lines : RegisterFile → Option ℕ → List (List ℕ)
size_lines file None = []
size_lines file (Some virtual) = size_line file.width virtual ∷ []

abbrev pub register_lines : Print → RegisterFile → Bool → List (List ℕ)
register_lines print file fixed =
    map (line_of print file) (None ∷ map Some (read_pairs file)) ++ line_behind print file (unread fixed file) (first_behind fixed) ∷ map (line_of print file) (last_keys fixed)

abbrev pub x86info_lines : Print → RegisterFile → List (List ℕ)
x86info_lines print file = codes "MTRR registers:" ∷ (register_lines print file (has_fixed file) ++ size_lines file print.virtual)

-- ---- the files that can be printed

-- a printed byte that begins no comment
abbrev pub is_field_byte : ℕ → Bool
is_field_byte byte = nat_lt 31 byte && nat_lt byte 127 && not (byte == 35)

-- each begins with a blank, if it isn't empty
abbrev pub AreFields : (Key → List ℕ) → Type 0
AreFields fields = (key : Key) → (length (fields key) ≤ 200) × (goes_on (fields key) ≡ false) × (list_all is_field_byte (fields key) ≡ true)

-- Any register file can be printed. Words have to supply what isn't printed, and what stands behind more names than two, and no value but the file's.
pub record SuitsX86info (print : Print) (file : RegisterFile) (supplied : Supplied) : Type 0 where
  pub are_names : AreNames print.names
  pub are_fields : AreFields print.fields
  pub few_virtual : (virtual : ℕ) → print.virtual ≡ Some virtual → virtual ≤ 64
  pub is_file : IsRegisterFile file
  pub has_words : HasWords file
  pub agrees : Agrees supplied file
  pub width : print.virtual ≡ None → supplied.width ≡ Some file.width
  pub pat : supplied_value supplied 0x277 ≡ Some file.pat
  pub fixed_c0000 : has_fixed file ≡ true → supplied_value supplied 0x268 ≡ Some (value_of file (FixedRange 3))
  pub fixed_00000 : has_fixed file ≡ true → length file.pairs < 7 → supplied_value supplied 0x250 ≡ Some (value_of file (FixedRange 0))
  pub default_type : has_fixed file ≡ false → supplied_value supplied 0x2ff ≡ Some file.default_type
  pub bases : (n : ℕ) → 8 ≤ n → n < length file.pairs → supplied_value supplied (0x200 + 2 * n) ≡ Some (pair_at file.pairs n).0
  pub masks : (n : ℕ) → 8 ≤ n → n < length file.pairs → supplied_value supplied (0x201 + 2 * n) ≡ Some (pair_at file.pairs n).1

-- ---- all processors, with --all-cpus

-- `CPU #%u:`, counted from 1
abbrev pub cpu_line : ℕ → List ℕ
cpu_line k = codes "CPU #" ++ (decimal (k + 1) ++ codes ":")

-- what is printed of each processor, of which the first has this number
abbrev pub cpu_lines : ℕ → List (Print × RegisterFile) → List (List ℕ)
cpu_lines k [] = []
cpu_lines k (cpu ∷ cpus) = cpu_line k ∷ (x86info_lines cpu.0 cpu.1 ++ cpu_lines (k + 1) cpus)

abbrev pub files_in : List (Print × RegisterFile) → List RegisterFile
files_in cpus = map (λ (cpu : Print × RegisterFile). cpu.1) cpus

-- The files of one dump can be printed. Words supply what isn't printed, which is to be alike of all processors.
pub record SuitsX86infoOfAll (cpus : List (Print × RegisterFile)) (supplied : Supplied) : Type 0 where
  pub is_dump : IsDump (dump_of_all (files_in cpus))
  pub each : AllByRecursion (λ (cpu : Print × RegisterFile). SuitsX86info cpu.0 cpu.1 supplied) cpus
