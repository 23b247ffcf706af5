-- What `mtrr-import memory` writes, and the status that it ends with (own).
--     outcome_of words bytes      the map, what is told beside it, and the status, for a command line and a log
--     IsMapRun words source out errors status      a run
use Rattle.std.specs.Prelude.{ℕ, ◌≡◌, ◌≢◌, ◌⊎◌, ◌↔◌, ◌==◌, ◌++◌, Bool, List, [], codes, decimal, if◌then◌else◌, Option, Some, None, Result, Ok, Err, is_some, IsSome, ⊤}
use Rattle.mt_ports.specs.Causes.{StatusHasCause}
use Rattle.mt_ports.specs.declared.status.Status.{Status}
use Rattle.mt_ports.specs.declared.status.Status.TheVariants.{Done, Refused, Usage, BadText, ReadFault, WriteFault, NoMemory, TooLong, TooFew, Disabled}
use Rattle.mt_text.specs.Feed.{GaveTooMuch}
use Rattle.mt_text.specs.Text.{lines_of}
use Rattle.mt_output.specs.Lines.{bad_text, line, usage_line}
use Rattle.mt_output.specs.Ports.{SinkRun, SourceRun}
use Rattle.mt_output.specs.Written as one
use Rattle.mt_shell.specs.Runs.{Commands}
use Rattle.mt_memory.specs.declared.command.Asked.{Asked}
use Rattle.mt_memory.specs.declared.format.Format.{Format}
use Rattle.mt_memory.specs.declared.format.Format.TheVariants.{E820, Efi, Coreboot, Iomem}
use Rattle.mt_memory.specs.declared.format.MapFault.{MapFault}
use Rattle.mt_memory.specs.declared.format.MapFault.TheVariants.{LongLine, Backward, UnknownKind, Hidden, Utf16, TooManyRanges, SeveralMaps, NoMap}
use Rattle.mt_memory.specs.declared.format.MapsBegun.{MapsBegun}
use Rattle.mt_memory.specs.declared.format.MemoryMap.{MemoryMap}
use Rattle.mt_memory.specs.declared.format.Overlap.{Overlap}
use Rattle.mt_memory.specs.declared.format.WhichMap.{WhichMap}
use Rattle.mt_memory.specs.declared.format.WhichMap.TheVariants.{Sole, Last, Number}
use Rattle.mt_memory.specs.Command.{command_of}
use Rattle.mt_memory.specs.Help.{own_text}
use Rattle.mt_memory.specs.Log.{log_map}
use Rattle.mt_memory.specs.Maps.{IsMapOf}
use Rattle.mt_memory.specs.MapText.{map_text}

-- the texts for standard output and for standard error, and the status
pub record Outcome : Type 0 where
  pub map : List ℕ
  pub reasons : List ℕ
  pub status : Status

-- ---- faults

-- what is between the lines of the first and the last of so many maps
abbrev pub between : ℕ → List ℕ
between count = if count == 2 then codes " and " else codes ", .., "

-- `2 maps, at lines 1 and 18`
abbrev pub maps_text : MapsBegun → List ℕ
maps_text begun =
    if begun.count == 0 then codes "no line shows a range"
    else if begun.count == 1 then codes "1 map, at line " ++ decimal begun.first
    else decimal begun.count ++ codes " maps, at lines " ++ decimal begun.first ++ between begun.count ++ decimal begun.last

abbrev pub which_text : WhichMap → List ℕ
which_text Sole = codes "map"
which_text Last = codes "table=last"
which_text (Number number) = codes "table=" ++ decimal number

-- the line on the first one that breaks off
abbrev pub broken_note : ℕ → List ℕ
broken_note broken = if broken == 0 then [] else line (codes "warning: line " ++ decimal broken ++ codes ": it breaks off, and its range is missing")

abbrev pub missing_map : WhichMap → MapsBegun → List ℕ
missing_map which begun = broken_note begun.broken ++ line (codes "missing " ++ which_text which ++ codes ": " ++ maps_text begun)

abbrev pub fault_text : WhichMap → MapFault → List ℕ
fault_text which (LongLine place) = bad_text place (codes "bad line")
fault_text which (Backward place) = bad_text place (codes "bad range")
fault_text which (UnknownKind place) = bad_text place (codes "unknown kind")
fault_text which (Hidden place) = bad_text place (codes "hidden: read as root")
fault_text which (Utf16 place) = bad_text place (codes "UTF-16")
fault_text which (TooManyRanges place) = bad_text place (codes "too many ranges")
fault_text which (SeveralMaps begun) = line (maps_text begun ++ codes ": table=last takes the last")
fault_text which (NoMap begun) = missing_map which begun

abbrev pub fault_status : MapFault → Status
fault_status (LongLine place) = BadText
fault_status (Backward place) = BadText
fault_status (UnknownKind place) = BadText
fault_status (Hidden place) = BadText
fault_status (Utf16 place) = BadText
fault_status (TooManyRanges place) = BadText
fault_status (SeveralMaps begun) = BadText
fault_status (NoMap begun) = Refused

-- ---- notes

abbrev pub format_name : Format → List ℕ
format_name E820 = codes "e820"
format_name Efi = codes "efi"
format_name Coreboot = codes "coreboot"
format_name Iomem = codes "iomem"

-- the line that names the format, if no word does
abbrev pub format_note : Option Format → Format → List ℕ
format_note (Some named) format = []
format_note None format = line (codes "the map is of " ++ format_name format)

-- the line on bytes that two lines show
abbrev pub overlap_note : Option Overlap → List ℕ
overlap_note None = []
overlap_note (Some overlap) =
    line (codes "warning: line " ++ decimal overlap.line ++ codes ": it shows bytes of line " ++ decimal overlap.earlier ++ codes " too, and counts for them")

abbrev pub note_text : Asked → MemoryMap → List ℕ
note_text asked found = format_note asked.format found.format ++ broken_note found.broken ++ overlap_note found.overlap

-- ---- outcomes

abbrev pub outcome_by : Asked → Result MemoryMap MapFault → Outcome
outcome_by asked (Ok found) = record { map = map_text found.ranges.items; reasons = note_text asked found; status = Done }
outcome_by asked (Err fault) = record { map = []; reasons = fault_text asked.which fault; status = fault_status fault }

abbrev pub own_outcome : List ℕ → Outcome
own_outcome text = record { map = text; reasons = []; status = Done }

abbrev pub usage_outcome : Outcome
usage_outcome = record { map = []; reasons = usage_line; status = Usage }

abbrev pub outcome_in : Option (List ℕ) → Option Asked → List ℕ → Outcome
outcome_in (Some text) asked bytes = own_outcome text
outcome_in None None bytes = usage_outcome
outcome_in None (Some asked) bytes = outcome_by asked (log_map asked.format asked.which bytes)

abbrev pub outcome_of : List (List ℕ) → List ℕ → Outcome
outcome_of words bytes = outcome_in (own_text words) (command_of words) bytes

-- without a command, and for the program's own texts, nothing is read
abbrev pub left_in : Option (List ℕ) → Option Asked → List ℕ → List ℕ
left_in (Some text) asked bytes = bytes
left_in None None bytes = bytes
left_in None (Some asked) bytes = []

abbrev pub left_of : List (List ℕ) → List ℕ → List ℕ
left_of words bytes = left_in (own_text words) (command_of words) bytes

-- a status with which texts are written
abbrev pub IsToldStatus : Status → Type 0
IsToldStatus Done = ⊤
IsToldStatus Refused = ⊤
IsToldStatus Usage = ⊤
IsToldStatus BadText = ⊤
IsToldStatus ReadFault = ⊥
IsToldStatus WriteFault = ⊥
IsToldStatus NoMemory = ⊥
IsToldStatus TooLong = ⊥
IsToldStatus TooFew = ⊥
IsToldStatus Disabled = ⊥

-- ---- runs

-- Standard error took the reasons, and then the other sink the map if there is one. A sink that failed did so once, took a front of its text, and
-- is the last that took something.
pub record Writes {K E : Type 0} (texts : Outcome) (out : SinkRun K) (errors : SinkRun E) (status : Status) : Type 0 where
  pub told : Status
  pub reasons : one.Writes texts.reasons texts.status (errors.taken errors.old) (errors.taken errors.new) told
  pub errors_cause : StatusHasCause WriteFault (errors.faults errors.old) (errors.faults errors.new) told
  pub alone : told ≢ Done → (status ≡ told) × (out.new ≡ out.old)
  pub map : told ≡ Done → one.Writes texts.map Done (out.taken out.old) (out.taken out.new) status
  pub map_cause : told ≡ Done → StatusHasCause WriteFault (out.faults out.old) (out.faults out.new) status

-- The source was read, and what the words and its bytes come to was written. Or it failed or gave too much, and nothing was.
pub data IsTold {S K E : Type 0} (words : List (List ℕ)) (source : SourceRun S) (out : SinkRun K) (errors : SinkRun E) (status : Status) : Type 0 where
  told : (texts : Outcome)
      → ((bytes : List ℕ) → source.left source.old ≡ Some bytes → (texts ≡ outcome_of words bytes) × (source.left source.new ≡ Some (left_of words bytes)))
      → Writes texts out errors status → IsTold words source out errors status
  unread : (status ≡ ReadFault) ⊎ (status ≡ TooLong) → out.new ≡ out.old → errors.new ≡ errors.old → IsTold words source out errors status

-- A run for words, over a source, a sink for the map, and standard error.
pub record IsMapRun {S K E : Type 0} (words : List (List ℕ)) (source : SourceRun S) (out : SinkRun K) (errors : SinkRun E) (status : Status) : Type 0 where
  pub told : IsTold words source out errors status
  -- Without a command nothing is read, nor for the program's own texts.
  pub usage : command_of words ≡ None → source.new ≡ source.old
  pub own : IsSome (own_text words) → source.new ≡ source.old
  pub read_fault : StatusHasCause ReadFault (source.faults source.old) (source.faults source.new) status
  pub too_long : (status ≡ TooLong) ↔ GaveTooMuch (source.given source.old) (source.given source.new)

-- the words that are a format, and which map
abbrev pub reads_log : List (List ℕ) → Bool
reads_log words = is_some (command_of words)

abbrev pub commands : Commands
commands = record { name = codes "mtrr-import"; reads = reads_log; hint = None }

-- ---- laws

-- What is printed of a log if the status is 0: the lines of its map, and what is told of it.
pub record IsPrinted (asked : Asked) (bytes : List ℕ) (printed : Outcome) : Type 0 where
  pub found : MemoryMap
  pub is_map : IsMapOf asked.format asked.which (lines_of bytes) found
  pub map : printed.map ≡ map_text found.ranges.items
  pub reasons : printed.reasons ≡ note_text asked found

abbrev pub MapsArePrinted : Type 0
MapsArePrinted = (words : List (List ℕ)) (asked : Asked) (bytes : List ℕ) → own_text words ≡ None → command_of words ≡ Some asked → (outcome_of words bytes).status ≡ Done
    → IsPrinted asked bytes (outcome_of words bytes)

-- Nothing is printed at another status.
abbrev pub ReasonsComeAlone : Type 0
ReasonsComeAlone = (words : List (List ℕ)) (bytes : List ℕ) → ((outcome_of words bytes).status ≡ Done → ⊥) → (outcome_of words bytes).map ≡ []
