-- What a text is read as, and what a reader of a dump keeps of the lines that it has read, of which the last stands first (own).
--     dump_in before      the dump that the lines lead to
--     read_text text      the dump that the text shows, or its first offence
--     dump_offence text      the first offence, with its reason and place
--     done_in before      the lines of each section behind the present one
use Rattle.std.specs.Prelude.{ℕ, ◌≡◌, ◌≤◌, ◌<◌, ◌-◌, ◌==◌, nat_lt, Bool, false, List, [], ◌∷◌, ◌++◌, length, ⊤, if◌then◌else◌, map, Option, Some, None, ok_or, option_to_list, unwrap_or, Result, Ok, Err}
use Rattle.std.specs.List.{slice_index_or}
use Rattle.std.specs.Option.{option_and_then, option_map, option_map_or}
use Rattle.std.specs.Result.{result_err}
use Rattle.mt_text.specs.Reader.{Course}
use Rattle.mt_text.specs.Text.{end_of}
use Rattle.mt_text.specs.declared.place.Place.{Place}
use Rattle.mt_regs.specs.RegisterFile.{RegisterFile, low_byte, blank_file}
use Rattle.mt_regs.specs.Registers.{written}
use Rattle.mt_dump.specs.Line.{Reading, fault_at}
use Rattle.mt_dump.specs.Dumps.{Dump}
use Rattle.mt_dump.specs.Dump.{given, widths, gives_width, times, version_of, said_by, is_given, is_spoken, section_numbers, up_to_section, section_count, first_width, offence_of, said_from}
use Rattle.mt_dump.specs.declared.fault.DumpFault.{DumpFault}
use Rattle.mt_dump.specs.declared.fault.DumpReason.TheVariants.{NoCap}
use Rattle.mt_dump.specs.declared.said.Said.TheVariants.{Nothing, Version, Section, Width, Register}

-- what a line that is good by itself can't say otherwise
abbrev pub IsSane : Reading → Type 0
IsSane (Err fault) = ⊤
IsSane (Ok Nothing) = ⊤
IsSane (Ok (Version version place)) = (1 ≤ version) × (version ≤ 2)
IsSane (Ok (Section number place)) = number ≤ 15
IsSane (Ok (Width width first second)) = (32 ≤ width) × (width ≤ 52)
IsSane (Ok (Register number value first second)) = number ≡ 0xfe → low_byte value ≤ 32

-- no line has an offence after those before it
abbrev pub IsClean : List Reading → Type 0
IsClean [] = ⊤
IsClean (line ∷ before) = IsSane line × (offence_of before line ≡ None) × IsClean before

abbrev pub with_width : RegisterFile → ℕ → RegisterFile
with_width file width = record file { width = width }

-- The file that the lines of the present section lead to, but for its width. The next section begins with its capabilities.
-- A section that has a file keeps it where 0FEH is given again.
abbrev pub file_in : List Reading → Option RegisterFile
file_in [] = None
file_in (Ok (Register number value first second) ∷ before) =
    if number == 0xfe then Some (unwrap_or (file_in before) (blank_file 36 value))
    else option_and_then (λ file. written file number value) (file_in before)
file_in (Ok (Section number place) ∷ before) = option_map (λ file. blank_file 36 file.capabilities) (file_in before)
file_in (other ∷ before) = file_in before

-- the files of the sections behind the present one, in order
abbrev pub files_in : List Reading → List RegisterFile
files_in [] = []
files_in (Ok (Section number place) ∷ before) =
    files_in before ++ map (λ file. with_width file (first_width before)) (option_to_list (file_in before))
files_in (other ∷ before) = files_in before

-- the dump that the lines lead to, if one of them gave 0FEH
abbrev pub dump_in : List Reading → Option Dump
dump_in before =
    option_map
    (λ file. record { version = version_of before; files = files_in before ++ with_width file (first_width before) ∷ [] })
    (file_in before)

-- What lines behind others lead to: the dump, or the first offence. 0FEH must have been given where they end.
abbrev pub read_from : Place → List Reading → List Reading → Result Dump DumpFault
read_from end before [] = ok_or (dump_in before) (fault_at NoCap end)
read_from end before (line ∷ rest) = option_map_or (λ fault. Err fault) (offence_of before line) (read_from end (line ∷ before) rest)

abbrev pub read_text : List ℕ → Result Dump DumpFault
read_text text = read_from (end_of text) [] (said_by text)

abbrev pub dump_offence : List ℕ → Option DumpFault
dump_offence text = result_err (read_text text)

-- the lines in their order, before others
abbrev pub onto : {X : Type 0} → List X → List X → List X
onto [] rest = rest
onto (line ∷ before) rest = onto before (line ∷ rest)

-- the sections behind the present one, in order
abbrev pub done_next : List ℕ → List (List Reading) → List Reading → List (List Reading)
done_next [] done section = []
done_next (n ∷ ns) done section = done ++ section ∷ []

abbrev pub done_in : List Reading → List (List Reading)
done_in [] = []
done_in (Ok (Section number place) ∷ before) = done_next (section_numbers before) (done_in before) (onto (up_to_section before) [])
done_in (Ok Nothing ∷ before) = done_in before
done_in (Ok (Version version place) ∷ before) = done_in before
done_in (Ok (Width width first second) ∷ before) = done_in before
done_in (Ok (Register number value first second) ∷ before) = done_in before
done_in (Err fault ∷ before) = done_in before

-- A reader between two lines.
pub record State : Type 0 where
  pub version : ℕ  -- the version that is told, or else 1
  pub spoken : Bool  -- whether a line had words
  pub sections : ℕ  -- the number of `cpu` lines
  pub files : List RegisterFile  -- the files of the sections behind the present one
  pub file : Option RegisterFile  -- the file of the registers that the present section gave
  pub width : ℕ  -- the width that section 0 gives, or else the usual one
  pub has_width : Bool  -- whether the present section gave it
  pub width_given : Bool  -- whether some line gave it
  pub has_capabilities : Bool  -- whether the present section gave 0FEH
  pub marks : List Bool  -- whether it gave each register from 200H on

-- A reader has read these lines.
pub record HasRead (state : State) (before : List Reading) : Type 0 where
  pub clean : IsClean before
  pub version_is : state.version ≡ version_of before
  pub spoken_is : state.spoken ≡ is_spoken before
  pub sections_is : state.sections ≡ section_count before
  pub files_is : state.files ≡ files_in before
  pub file_is : state.file ≡ file_in before
  pub width_is : state.width ≡ first_width before
  pub has_width_is : state.has_width ≡ nat_lt 0 (length (widths (up_to_section before)))
  pub width_given_is : state.width_given ≡ gives_width before
  pub has_capabilities_is : state.has_capabilities ≡ is_given 0xfe (up_to_section before)
  pub size : length state.marks ≡ 256
  pub marked : (number : ℕ) → 0x200 ≤ number → number < 0x300 → slice_index_or state.marks (number - 0x200) false ≡ nat_lt 0 (times number (given (up_to_section before)))

-- The lines that follow, of which the first has this number, lead a reader to this.
pub record LeadsTo (state : State) (number : ℕ) (course : Course (Result Dump DumpFault)) : Type 0 where
  pub before : List Reading
  pub read : HasRead state before
  pub leads : (lines : List (List ℕ)) (end : Place) → course lines end ≡ read_from end before (said_from number lines)
