-- Logs that hold what a program prints of a register file, and what it means that they read back (own).
--     HoldsTable format file table text      the lines of a log are those of a table, among lines that say no more of a dump than the file
--     Agrees supplied file      words supply no other value than the file's
--     ReadsAs told wanted      the outcome is this dump
--     ReadsBack told file      the outcome is the file's dump
--     TextReadsAs format text supplied wanted      so it is of a text, by its format and by `auto`
--     TableReadsBack format table supplied file      so it is of a table's lines, and of each log that holds them
--     TableReadsInOrder format table supplied file      the same of each log that holds them in their order
use Rattle.std.specs.Prelude.{ℕ, ◌≡◌, ◌<◌, ◌+◌, ◌*◌, ◌^◌, ◌⊎◌, ⊤, bit_and, Bool, true, false, List, [], ◌∷◌, length, Option, None, Some, unwrap_or}
use Rattle.std.specs.List.{AllByRecursion}
use Rattle.mt_ports.specs.declared.status.Status.TheVariants.{Done}
use Rattle.mt_text.specs.Text.{lines_of}
use Rattle.mt_text.specs.declared.place.Place.{Place}
use Rattle.mt_regs.specs.declared.registers.Register.{Register}
use Rattle.mt_kinds.specs.Bits.{is_bit_set}
use Rattle.mt_regs.specs.RegisterFile.{RegisterFile, pair_at}
use Rattle.mt_regs.specs.Registers.{number_of, value_at, value_of}
use Rattle.mt_dump.specs.Canon.{canon, ended}
use Rattle.mt_dump.specs.Dumps.{Dump, dump_of}
use Rattle.mt_import.specs.declared.shape.Warning.{Warning}
use Rattle.mt_import.specs.declared.format.Choice.TheVariants.{Auto, Only}
use Rattle.mt_import.specs.declared.format.Format.{Format}
use Rattle.mt_import.specs.declared.format.Format.TheVariants.{Rdmsr, X86info, Inteltool, Coreboot, Edk2, Linux, Xen, Chipsec, Windbg, Plain}
use Rattle.mt_import.specs.declared.reading.LineSays.TheVariants.{Nothing, Shows, Turns, Warns, Width}
use Rattle.mt_import.specs.declared.reading.Turn.TheVariants.{To}
use Rattle.mt_import.specs.declared.reading.LineSays.{LineSays}
use Rattle.mt_import.specs.declared.shape.Shown.{Shown}
use Rattle.mt_import.specs.Import.{log_outcome}
use Rattle.mt_import.specs.Readings.{is_register}
use Rattle.mt_import.specs.Outcome.{Outcome, version_of}
use Rattle.mt_import.specs.Shown.{said_of}
use Rattle.mt_import.specs.Supplied.{Supplied, supplied_value}
use Rattle.mt_import_laws.specs.Origins.{IsAmong}

-- ---- registers

-- the capability register, or a writable one
abbrev pub Key : Type 0
Key = Option Register

abbrev pub number_at : Key → ℕ
number_at None = 0xfe
number_at (Some register) = number_of register

abbrev pub value_in : RegisterFile → Key → ℕ
value_in file None = file.capabilities
value_in file (Some register) = value_of file register

-- ---- a log

abbrev pub is_kernel : Format → Bool
is_kernel Linux = true
is_kernel Xen = true
is_kernel Rdmsr = false
is_kernel X86info = false
is_kernel Inteltool = false
is_kernel Coreboot = false
is_kernel Edk2 = false
is_kernel Chipsec = false
is_kernel Windbg = false
is_kernel Plain = false

-- Bits of a register of the file, with its value. A kernel's log shows no bit but V, bit 11, of a mask whose V is clear.
pub record IsSame (format : Format) (file : RegisterFile) (shown : Shown) : Type 0 where
  pub whole : ℕ
  pub has : value_at file shown.number ≡ Some whole
  pub small : shown.bits < 2 ^ 64
  pub part : shown.value ≡ bit_and whole shown.bits
  pub off : is_kernel format ≡ true → (n : ℕ) → shown.number ≡ 0x201 + 2 * n → is_bit_set (pair_at file.pairs n).1 11 ≡ false → shown.bits ≡ 0x800

-- a register that no dump has, or one of the file, or none
abbrev pub IsNoMore : Format → RegisterFile → Option Shown → Type 0
IsNoMore format file None = ⊤
IsNoMore format file (Some shown) = (is_register shown.number ≡ false) ⊎ IsSame format file shown

-- What says no more of a dump than its file: nothing, the width, a warning, that lines of processor 0 follow, or such registers.
pub data SaysNoMore (format : Format) (file : RegisterFile) (said : LineSays) : Type 0 where
  no_match : said ≡ Nothing → SaysNoMore format file said
  only_width : (place : Place) → said ≡ Width file.width place → SaysNoMore format file said
  only_warns : (warning : Warning) (number : ℕ) → said ≡ Warns warning number → SaysNoMore format file said
  only_turns : said ≡ Turns (To 0) → SaysNoMore format file said
  only_shows : (processor : Option ℕ) (shows : List (Option Shown)) → said ≡ Shows processor shows → unwrap_or processor 0 ≡ 0 → AllByRecursion (IsNoMore format file) shows → SaysNoMore format file said

-- a line that says no more, whatever its number
abbrev pub TellsNoMore : Format → RegisterFile → List ℕ → Type 0
TellsNoMore format file line = (number : ℕ) → SaysNoMore format file (said_of format number line)

-- A log has each line of a table of a file, and any lines besides that say no more of a dump than the file.
pub record HoldsTable (format : Format) (file : RegisterFile) (table : List (List ℕ)) (text : List ℕ) : Type 0 where
  pub has : (line : List ℕ) → IsAmong line table → IsAmong line (lines_of text)
  pub others : (line : List ℕ) → IsAmong line (lines_of text) → IsAmong line table ⊎ TellsNoMore format file line

-- A log has the lines of a table in their order, and between them any lines that say no more of a dump than the file.
abbrev pub Weaves : Format → RegisterFile → List (List ℕ) → List (List ℕ) → Type 0
Weaves format file [] [] = ⊤
Weaves format file (line ∷ table) [] = ⊥
Weaves format file [] (other ∷ log) = TellsNoMore format file other × Weaves format file [] log
Weaves format file (line ∷ table) (other ∷ log) = ((other ≡ line) × Weaves format file table log) ⊎ (TellsNoMore format file other × Weaves format file (line ∷ table) log)

-- Words supply no width and no value but the file's.
pub record Agrees (supplied : Supplied) (file : RegisterFile) : Type 0 where
  pub width : (width : ℕ) → supplied.width ≡ Some width → width ≡ file.width
  pub registers : (number value : ℕ) → supplied_value supplied number ≡ Some value → value_at file number ≡ Some value

pub record ReadsAs (told : Outcome) (wanted : Dump) : Type 0 where
  pub status : told.status ≡ Done
  pub dump : told.dump ≡ canon wanted

abbrev pub ReadsBack : Outcome → RegisterFile → Type 0
ReadsBack told file = ReadsAs told (dump_of file)

-- the dump of these processors' files: of version 1 for one, else of version 2
abbrev pub dump_of_all : List RegisterFile → Dump
dump_of_all files = record { version = version_of (length files); files = files }

-- A text gives this dump by the name of its format, and by `auto`.
pub record TextReadsAs (format : Format) (text : List ℕ) (supplied : Supplied) (wanted : Dump) : Type 0 where
  pub by_name : ReadsAs (log_outcome (Only format) supplied text) wanted
  pub by_auto : ReadsAs (log_outcome Auto supplied text) wanted

abbrev pub TextReadsBack : Format → List ℕ → Supplied → RegisterFile → Type 0
TextReadsBack format text supplied file = TextReadsAs format text supplied (dump_of file)

-- A table of lines gives the file: alone, and in any log that holds it.
pub record TableReadsBack (format : Format) (table : List (List ℕ)) (supplied : Supplied) (file : RegisterFile) : Type 0 where
  pub alone : ReadsBack (log_outcome (Only format) supplied (ended table)) file
  pub among : (text : List ℕ) → HoldsTable format file table text → ReadsBack (log_outcome (Only format) supplied text) file

-- A table of lines gives the file: alone, and in any log that holds its lines in their order.
pub record TableReadsInOrder (format : Format) (table : List (List ℕ)) (supplied : Supplied) (file : RegisterFile) : Type 0 where
  pub alone : TextReadsBack format (ended table) supplied file
  pub among : (text : List ℕ) → Weaves format file table (lines_of text) → ReadsBack (log_outcome (Only format) supplied text) file
