-- A shell under `set -x` that reads each register of a processor, or of all by `-a`, by `rdmsr` (msr-tools 1.3), and the program's output.
--     rdmsr_lines file      the lines
--     rdmsr_text file      the text
--     rdmsr_all_lines files      the lines of all processors
use Rattle.std.specs.Prelude.{ℕ, ◌≡◌, false, codes, List, [], ◌∷◌, ◌++◌, map, None, Some}
use Rattle.std.specs.List.{AllByRecursion}
use Rattle.std.specs.Fmt.{digits}
use Rattle.mt_regs.specs.RegisterFile.{IsRegisterFile, RegisterFile}
use Rattle.mt_regs.specs.Registers.{writable}
use Rattle.mt_regs.specs.Words.{HasWords}
use Rattle.mt_dump.specs.Canon.{ended}
use Rattle.mt_dump.specs.Dumps.{IsDump, first_of}
use Rattle.mt_import.specs.Supplied.{Supplied}
use Rattle.mt_import_laws.specs.Printed.{Agrees, Key, dump_of_all, number_at, value_in}

-- `%llx`
abbrev pub hex_text : ℕ → List ℕ
hex_text value = digits 16 false value

abbrev pub call_line : ℕ → List ℕ
call_line number = codes "+ rdmsr -p 0 0x" ++ hex_text number

-- a call for each register, and the value behind it
abbrev pub calls : RegisterFile → List Key → List (List ℕ)
calls file [] = []
calls file (key ∷ keys) = call_line (number_at key) ∷ hex_text (value_in file key) ∷ calls file keys

abbrev pub rdmsr_lines : RegisterFile → List (List ℕ)
rdmsr_lines file = calls file (None ∷ map Some (writable file))

abbrev pub rdmsr_text : RegisterFile → List ℕ
rdmsr_text file = ended (rdmsr_lines file)

-- Any register file can be read. Words have to supply its width, and no value but the file's.
pub record SuitsRdmsr (file : RegisterFile) (supplied : Supplied) : Type 0 where
  pub is_file : IsRegisterFile file
  pub has_words : HasWords file
  pub agrees : Agrees supplied file
  pub width : supplied.width ≡ Some file.width

-- ---- all processors

-- `-a` prints the values from processor 0 on.
abbrev pub all_line : ℕ → List ℕ
all_line number = codes "+ rdmsr -a 0x" ++ hex_text number

-- a call for each register, and the value of each processor behind it
abbrev pub all_calls : List RegisterFile → List Key → List (List ℕ)
all_calls files [] = []
all_calls files (key ∷ keys) = all_line (number_at key) ∷ (map (λ file. hex_text (value_in file key)) files ++ all_calls files keys)

abbrev pub rdmsr_all_lines : List RegisterFile → List (List ℕ)
rdmsr_all_lines files = all_calls files (None ∷ map Some (writable (first_of files)))

-- The files of one dump can be read. Words have to supply their width, and no value but that of each file.
pub record SuitsRdmsrOfAll (files : List RegisterFile) (supplied : Supplied) : Type 0 where
  pub is_dump : IsDump (dump_of_all files)
  pub has_words : AllByRecursion HasWords files
  pub agrees : AllByRecursion (Agrees supplied) files
  pub width : supplied.width ≡ Some (first_of files).width
