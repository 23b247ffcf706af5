-- What inteltool prints of a processor's MTRRs with -M (coreboot 25.09 and 4.15, util/inteltool/cpu.c, `print_intel_msrs`).
--     inteltool_lines names file      the lines of the registers of a file, behind those of the sections
use Rattle.std.specs.Prelude.{ℕ, ◌≡◌, ◌≤◌, ◌<◌, ◌/◌, ◌%◌, ◌&&◌, nat_lt, Bool, true, codes, decimal, List, ◌∷◌, ◌++◌, length, map, None, Some}
use Rattle.std.specs.List.{list_all}
use Rattle.std.specs.Int.{to_be_bytes, w32}
use Rattle.hex.specs.Hex.{encode_upper}
use Rattle.mt_regs.specs.RegisterFile.{IsRegisterFile, RegisterFile}
use Rattle.mt_regs.specs.Registers.{writable}
use Rattle.mt_regs.specs.Words.{HasWords}
use Rattle.mt_import.specs.declared.format.Format.TheVariants.{Inteltool}
use Rattle.mt_import.specs.declared.reading.LineSays.TheVariants.{Turns}
use Rattle.mt_import.specs.declared.reading.Turn.TheVariants.{To, Unread}
use Rattle.mt_import.specs.Shown.{said_of}
use Rattle.mt_import.specs.Supplied.{Supplied}
use Rattle.mt_import_laws.specs.Printed.{Agrees, Key, number_at, value_in}

-- `%08X`
abbrev pub eight_digits : ℕ → List ℕ
eight_digits value = encode_upper (to_be_bytes w32 value)

-- `0x%08X:0x%08X`: the upper and the lower half
abbrev pub halves_text : ℕ → List ℕ
halves_text value = codes "0x" ++ (eight_digits (value / 0x100000000) ++ (codes ":0x" ++ eight_digits (value % 0x100000000)))

-- ` MSR 0x%08X = 0x%08X:0x%08X (%s)`
abbrev pub register_line : ℕ → ℕ → List ℕ → List ℕ
register_line number value name = codes " MSR 0x" ++ (eight_digits number ++ (codes " = " ++ (halves_text value ++ (codes " (" ++ (name ++ codes ")")))))

-- what the table of a model calls each register
abbrev pub Names : Type 0
Names = Key → List ℕ

abbrev pub line_of : Names → RegisterFile → Key → List ℕ
line_of names file key = register_line (number_at key) (value_in file key) (names key)

-- By the table of the processor's model the registers are in one of two sections.
abbrev pub shared_header : List ℕ
shared_header = codes "===================== SHARED MSRs (All Cores) ====================="

-- `====================== UNIQUE MSRs  (core %d) ======================`
abbrev pub core_line : ℕ → List ℕ
core_line core = codes "====================== UNIQUE MSRs  (core " ++ (decimal core ++ codes ") ======================")

abbrev pub unique_header : List ℕ
unique_header = codes "====================== UNIQUE MSRs  (core 0) ======================"

abbrev pub inteltool_lines : Names → RegisterFile → List (List ℕ)
inteltool_lines names file = shared_header ∷ unique_header ∷ map (line_of names file) (None ∷ map Some (writable file))

-- a visible byte behind `#`
abbrev pub is_name_byte : ℕ → Bool
is_name_byte byte = nat_lt 35 byte && nat_lt byte 127

-- each name is a short word
abbrev pub AreNames : Names → Type 0
AreNames names = (key : Key) → (length (names key) ≤ 64) × (list_all is_name_byte (names key) ≡ true)

-- Any register file can be printed. Words have to supply its width, and no value but the file's.
pub record SuitsInteltool (names : Names) (file : RegisterFile) (supplied : Supplied) : Type 0 where
  pub are_names : AreNames names
  pub is_file : IsRegisterFile file
  pub has_words : HasWords file
  pub agrees : Agrees supplied file
  pub width : supplied.width ≡ Some file.width

-- The lines of the sections turn to the processors whose registers follow.
pub record CoresTurn : Type 0 where
  pub core : (core number : ℕ) → core < 65 → said_of Inteltool number (core_line core) ≡ Turns (To core)
  pub shared : (number : ℕ) → said_of Inteltool number shared_header ≡ Turns (To 0)
  pub unread : (number : ℕ) → said_of Inteltool number (codes "====================== UNIQUE MSRs  (core x) ======================") ≡ Turns Unread
