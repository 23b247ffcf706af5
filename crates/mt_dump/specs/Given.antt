-- What a text gives of the dump that it shows, and what only stands in the dump because no line gives it (own).
--     given_of says      what the lines of one section give
--     has_register given number      a register is among it
--     read_given text      the dump with what the text gives of it, or the first offence
--     Gives text given      this is what the text shows, and what its lines give
use Rattle.std.specs.Prelude.{ℕ, ◌≡◌, ◌-◌, ◌==◌, nat_le, nat_lt, ◌&&◌, Bool, false, List, [], ◌∷◌, map, ⊤, if◌then◌else◌, Result}
use Rattle.std.specs.List.{range_with_len, slice_index_or}
use Rattle.std.specs.Result.{result_map_both}
use Rattle.mt_text.specs.Reader.{Course}
use Rattle.mt_text.specs.declared.place.Place.{Place}
use Rattle.mt_dump.specs.Line.{Reading}
use Rattle.mt_dump.specs.Dumps.{Dump}
use Rattle.mt_dump.specs.Dump.{Shown, gives_width, is_given, said_by, said_from, sections_of}
use Rattle.mt_dump.specs.Reader.{HasRead, State, done_in, onto, read_from, read_text}
use Rattle.mt_dump.specs.declared.given.Given.{Given}
use Rattle.mt_dump.specs.declared.given.GivenDump.{GivenDump}
use Rattle.mt_dump.specs.declared.fault.DumpFault.{DumpFault}

-- whether lines give each register from 200H on
unfoldable pub marks_of : List Reading → List Bool
marks_of says = map (λ number. is_given number says) (range_with_len 0x200 256)

abbrev pub given_of : List Reading → Given
given_of says = record { has_width = gives_width says; has_capabilities = is_given 0xfe says; marks = marks_of says }

abbrev pub has_register : Given → ℕ → Bool
has_register given number =
    if number == 0xfe then given.has_capabilities
    else if nat_le 0x200 number && nat_lt number 0x300 then slice_index_or given.marks (number - 0x200) false
    else false

-- a dump with what these lines give of it
abbrev pub given_by : List Reading → Dump → GivenDump
given_by says dump = record { dump = dump; has_width = gives_width says; sections = record { items = map given_of (sections_of says) } }

abbrev pub given_after : List Reading → Result Dump DumpFault → Result GivenDump DumpFault
given_after says read = result_map_both (given_by says) (λ fault. fault) read

abbrev pub read_given : List ℕ → Result GivenDump DumpFault
read_given text = given_after (said_by text) (read_text text)

-- This is what the lines of a section give.
pub record IsGivenIn (says : List Reading) (given : Given) : Type 0 where
  pub width : given.has_width ≡ gives_width says
  pub registers : (number : ℕ) → has_register given number ≡ is_given number says

abbrev pub AreGivenIn : List (List Reading) → List Given → Type 0
AreGivenIn [] [] = ⊤
AreGivenIn (says ∷ sections) (given ∷ more) = IsGivenIn says given × AreGivenIn sections more
AreGivenIn sections more = ⊥

-- The text shows the dump, and this is what it gives and what each section gives.
pub record Gives (text : List ℕ) (given : GivenDump) : Type 0 where
  pub shown : Shown text given.dump
  pub width : given.has_width ≡ gives_width (said_by text)
  pub sections : AreGivenIn (sections_of (said_by text)) given.sections.items

-- The lines that follow lead a reader to this, who kept what the sections behind the present one gave.
pub record LeadsToGiven (state : State) (ended : List Given) (number : ℕ) (course : Course (Result GivenDump DumpFault)) : Type 0 where
  pub before : List Reading
  pub read : HasRead state before
  pub ended_is : ended ≡ map given_of (done_in before)
  pub leads : (lines : List (List ℕ)) (end : Place) → let rest = said_from number lines in course lines end ≡ given_after (onto before rest) (read_from end before rest)
