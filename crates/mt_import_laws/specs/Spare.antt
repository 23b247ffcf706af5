-- Logs of which one has a line more, that matches nothing (own).
--     HasSpareLine choice longer shorter      so it is of two texts
--     ComeToSameWithout auto at longer shorter      two outcomes agree, and reasons count without the line of this number
use Rattle.std.specs.Prelude.{ℕ, ◌≡◌, ◌≢◌, ◌+◌, ◌-◌, nat_le, ⊤, Bool, false, List, [], ◌∷◌, ◌++◌, length, if◌then◌else◌, Option, Some, None}
use Rattle.mt_text.specs.Text.{lines_of}
use Rattle.mt_text.specs.declared.place.Place.{Place}
use Rattle.mt_ports.specs.declared.status.Status.{Status}
use Rattle.mt_ports.specs.declared.status.Status.TheVariants.{BadText, Done}
use Rattle.mt_import.specs.declared.fault.ImportFault.{ImportFault}
use Rattle.mt_import.specs.declared.fault.ImportFault.TheVariants.{BadLine, BadProcessor, TooManyPairs, BadWidth, Contradiction, WidthContradiction}
use Rattle.mt_import.specs.declared.fault.Rival.{Rival}
use Rattle.mt_import.specs.declared.fault.Rival.TheVariants.{Line, Word, CapabilityLine, CapabilityWord, RegisterLine}
use Rattle.mt_import.specs.declared.format.Choice.{Choice}
use Rattle.mt_import.specs.declared.reading.Context.{Context}
use Rattle.mt_import.specs.declared.reading.LineSays.TheVariants.{Value}
use Rattle.mt_import.specs.declared.shape.Tally.{Tally}
use Rattle.mt_import.specs.declared.shape.Warned.{Warned}
use Rattle.mt_import.specs.Outcome.{Outcome, count_line, fault_line}
use Rattle.mt_import.specs.Readings.{starts}
use Rattle.mt_import.specs.Warnings.{warning_lines}
use Rattle.mt_import.specs.Census.{format_of}
use Rattle.mt_import.specs.Shown.{said_in}
use Rattle.mt_import_laws.specs.Alike.{MatchesNothing}
use Rattle.mt_import_laws.specs.FirstLine.{ComeToSame}
use Rattle.mt_import_laws.specs.Origins.{context_after_lines}

-- ---- the logs

-- the first of these lines isn't a value alone
abbrev pub NoValueFirst : Context → ℕ → List (List ℕ) → Type 0
NoValueFirst context number [] = ⊤
NoValueFirst context number (line ∷ lines) = (value : ℕ) (place : Place) → said_in context.format number line ≢ Value value place

-- No call waits for its value, or no value comes next: any line between them takes the call back.
pub data TakesNoneBack (context : Context) (number : ℕ) (others : List (List ℕ)) : Type 0 where
  none_waits : context.announced ≡ None → TakesNoneBack context number others
  no_value_next : NoValueFirst context number others → TakesNoneBack context number others

-- A line of the longer log matches nothing. Without it the shorter log has the same lines.
pub record HasSpareLine (choice : Choice) (longer shorter : List ℕ) : Type 0 where
  pub before : List (List ℕ)
  pub line : List ℕ
  pub others : List (List ℕ)
  pub longer_lines : lines_of longer ≡ before ++ line ∷ others
  pub shorter_lines : lines_of shorter ≡ before ++ others
  pub spare : MatchesNothing choice (1 + length before) line
  pub takes_none_back : TakesNoneBack (context_after_lines (starts (format_of choice longer)) 1 before) (1 + length before + 1) others

-- ---- the outcomes

-- a line's number once the line of this number is gone
abbrev pub number_without : ℕ → ℕ → ℕ
number_without at number = if nat_le at number then number - 1 else number

-- a fault whose lines have other numbers
abbrev pub moved_place : (ℕ → ℕ) → Place → Place
moved_place move place = record { line = move place.line; column = place.column }

abbrev pub moved_rival : (ℕ → ℕ) → Rival → Rival
moved_rival move (Line number) = Line (move number)
moved_rival move Word = Word
moved_rival move (CapabilityLine number) = CapabilityLine (move number)
moved_rival move CapabilityWord = CapabilityWord
moved_rival move (RegisterLine number) = RegisterLine (move number)

abbrev pub moved_fault : (ℕ → ℕ) → ImportFault → ImportFault
moved_fault move (BadLine why place) = BadLine why (moved_place move place)
moved_fault move (BadProcessor place) = BadProcessor (moved_place move place)
moved_fault move (TooManyPairs place) = TooManyPairs (moved_place move place)
moved_fault move (BadWidth place) = BadWidth (moved_place move place)
moved_fault move (Contradiction place number rival) = Contradiction (moved_place move place) number (moved_rival move rival)
moved_fault move (WidthContradiction place rival) = WidthContradiction (moved_place move place) (moved_rival move rival)

abbrev pub moved_line : (ℕ → ℕ) → Option ℕ → Option ℕ
moved_line move None = None
moved_line move (Some line) = Some (move line)

-- warnings of lines that have other numbers
abbrev pub moved_warned : (ℕ → ℕ) → Warned → Warned
moved_warned move warned = record {
  unlike = moved_line move warned.unlike;
  wrong_mask = moved_line move warned.wrong_mask;
  lost_memory = moved_line move warned.lost_memory;
  top_of_memory = moved_line move warned.top_of_memory;
  syscfg = moved_line move warned.syscfg;
  memory_bits = moved_line move warned.memory_bits;
}

abbrev pub one_line_less : ℕ → Tally → Tally
one_line_less at tally = record { format = tally.format; lines = tally.lines - 1; matches = tally.matches; warned = moved_warned (number_without at) tally.warned }

-- Of a fault the reasons are the same warnings and the same fault, with the lines' new numbers. Of a dump there are only warnings, unless
-- `auto` was chosen. All others count one line less, and have the same warnings with the lines' new numbers.
pub data AreMovedReasons (auto : Bool) (status : Status) (at : ℕ) (longer shorter : List ℕ) : Type 0 where
  of_warnings : auto ≡ false → status ≡ Done → (warned : Warned) → longer ≡ warning_lines warned → shorter ≡ warning_lines (moved_warned (number_without at) warned)
      → AreMovedReasons auto status at longer shorter
  of_fault : status ≡ BadText → (warned : Warned) (fault : ImportFault) → longer ≡ warning_lines warned ++ fault_line fault
      → shorter ≡ warning_lines (moved_warned (number_without at) warned) ++ fault_line (moved_fault (number_without at) fault)
      → AreMovedReasons auto status at longer shorter
  of_count : (tally : Tally) (others : List ℕ) → longer ≡ count_line tally ++ (warning_lines tally.warned ++ others)
      → shorter ≡ count_line (one_line_less at tally) ++ (warning_lines (one_line_less at tally).warned ++ others)
      → AreMovedReasons auto status at longer shorter

-- They stand behind the same text.
pub record ComeToSameWithout (auto : Bool) (at : ℕ) (longer shorter : Outcome) : Type 0 where
  pub same : ComeToSame longer shorter
  pub front : List ℕ
  pub longer_reasons : List ℕ
  pub shorter_reasons : List ℕ
  pub longer_are : longer.reasons ≡ front ++ longer_reasons
  pub shorter_are : shorter.reasons ≡ front ++ shorter_reasons
  pub moved : AreMovedReasons auto longer.status at longer_reasons shorter_reasons
