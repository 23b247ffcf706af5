-- The canonical text of a dump (own).
--     file_lines file      a file's lines without their LF: the width, 0FEH, and each writable register in ascending order
--     canon_lines dump      the lines of a dump: those of its file, or in version 2 `version 2` and the sections
--     canon dump      the whole text
use Rattle.std.specs.Prelude.{ℕ, ◌+◌, ◌/◌, ◌%◌, ◌==◌, nat_lt, if◌then◌else◌, List, [], ◌∷◌, ◌++◌, codes, map, slice_index}
use Rattle.std.specs.Int.{to_be_bytes, w64}
use Rattle.hex.specs.Hex.{encode_lower, lower_digits}
use Rattle.mt_regs.specs.RegisterFile.{RegisterFile}
use Rattle.mt_regs.specs.Registers.{number_of, value_of, writable}
use Rattle.mt_dump.specs.Dumps.{Dump, first_file}

-- `maxphyaddr` and the width in two decimal digits
abbrev pub width_line : ℕ → List ℕ
width_line width = codes "maxphyaddr " ++ (48 + width / 10) ∷ (48 + width % 10) ∷ []

-- a register's number in three lower-case digits
abbrev pub number_text : ℕ → List ℕ
number_text number = slice_index lower_digits (number / 256) ∷ slice_index lower_digits (number / 16 % 16) ∷ slice_index lower_digits (number % 16) ∷ []

-- a value in sixteen lower-case digits
abbrev pub value_text : ℕ → List ℕ
value_text value = encode_lower (to_be_bytes w64 value)

abbrev pub register_line : ℕ → ℕ → List ℕ
register_line number value = number_text number ++ 32 ∷ value_text value

-- the lines of a file
abbrev pub file_lines : RegisterFile → List (List ℕ)
file_lines file = width_line file.width ∷ register_line 0xfe file.capabilities ∷ map (λ register. register_line (number_of register) (value_of file register)) (writable file)

-- `cpu` and the number of a section in decimal digits, which is below 100
abbrev pub section_line : ℕ → List ℕ
section_line number = codes "cpu " ++ (if nat_lt number 10 then (48 + number) ∷ [] else (48 + number / 10) ∷ (48 + number % 10) ∷ [])

-- the sections of these files, of which the first has this number
abbrev pub section_lines : ℕ → List RegisterFile → List (List ℕ)
section_lines number [] = []
section_lines number (file ∷ files) = section_line number ∷ (file_lines file ++ section_lines (number + 1) files)

abbrev pub canon_lines : Dump → List (List ℕ)
canon_lines dump = if dump.version == 2 then codes "version 2" ∷ section_lines 0 dump.files else file_lines (first_file dump)

-- lines, each with its LF
abbrev pub ended : List (List ℕ) → List ℕ
ended [] = []
ended (line ∷ lines) = line ++ 10 ∷ ended lines

abbrev pub canon : Dump → List ℕ
canon dump = ended (canon_lines dump)
