-- What the lines of a log come to (own).
--     log_map format which text      the map that a log shows, or the first fault
--     taken state number line      what a line of this number makes of what the lines before it lead to
use Rattle.std.specs.Prelude.{ℕ, ◌-◌, ◌==◌, ◌&&◌, ◌||◌, nat_lt, Bool, true, false, List, [], ◌∷◌, length, if◌then◌else◌, Option, Some, None, Result, Ok, Err}
use Rattle.mt_ports.specs.Causes.{one_more}
use Rattle.mt_text.specs.Text.{end_of, is_too_long, lines_of, past_limit}
use Rattle.mt_text.specs.declared.place.Place.{Place}
use Rattle.mt_memory.specs.declared.format.Claim.{Claim}
use Rattle.mt_memory.specs.declared.format.Format.{Format}
use Rattle.mt_memory.specs.declared.format.MapFault.{MapFault}
use Rattle.mt_memory.specs.declared.format.MapFault.TheVariants.{LongLine, TooManyRanges, SeveralMaps, NoMap}
use Rattle.mt_memory.specs.declared.format.MapsBegun.{MapsBegun}
use Rattle.mt_memory.specs.declared.format.MemoryMap.{MemoryMap}
use Rattle.mt_memory.specs.declared.format.Overlap.{Overlap}
use Rattle.mt_memory.specs.declared.format.Shown.{Shown}
use Rattle.mt_memory.specs.declared.format.Shown.TheVariants.{Nothing, Range, Fault}
use Rattle.mt_memory.specs.declared.format.WhichMap.{WhichMap}
use Rattle.mt_memory.specs.declared.format.WhichMap.TheVariants.{Sole, Last, Number}
use Rattle.mt_memory.specs.Laying.{joined, laid, overlapped, ranges_of}
use Rattle.mt_memory.specs.Showing.{begins_map, breaks_off, chosen, low_behind, shown_in}
use Rattle.mt_memory.specs.Steps.{run_from}

-- ---- the lines of one map

-- What they come to: the pieces of their ranges, the first line that shows bytes of a line before it, and the first fault.
pub record Settled : Type 0 where
  pub pieces : List Claim
  pub overlap : Option Overlap
  pub fault : Option MapFault

abbrev pub nothing_settled : Settled
nothing_settled = record { pieces = []; overlap = None; fault = None }

abbrev pub overlap_or : Option Overlap → Option Overlap → Option Overlap
overlap_or (Some overlap) later = Some overlap
overlap_or None later = later

abbrev pub with_claim : Settled → Claim → Settled
with_claim s claim =
    if nat_lt 512 (length (laid claim s.pieces)) then record s { fault = Some (TooManyRanges claim.place) }
    else record s { pieces = laid claim s.pieces; overlap = overlap_or s.overlap (overlapped claim s.pieces) }

-- Nothing counts behind a fault.
abbrev pub settled_by : Option MapFault → Settled → Shown → Settled
settled_by (Some fault) s shown = s
settled_by None s Nothing = s
settled_by None s (Range claim) = with_claim s claim
settled_by None s (Fault fault) = record s { fault = Some fault }

abbrev pub settled_with : Settled → Shown → Settled
settled_with s shown = settled_by s.fault s shown

abbrev pub settled_from : Settled → List Shown → Settled
settled_from s [] = s
settled_from s (shown ∷ more) = settled_from (settled_with s shown) more

-- ---- what the lines before a line lead to

pub record State : Type 0 where
  pub which : WhichMap
  pub format : Option Format  -- the format, if it is known
  pub begun : MapsBegun
  pub between : Bool  -- no range was shown since the last map ended
  pub low : ℕ  -- the first byte of the last range
  pub ahead : ℕ  -- how many maps end up to the end of the wanted one, unless that is the last
  pub wanted : Settled

abbrev pub is_sole : WhichMap → Bool
is_sole Sole = true
is_sole Last = false
is_sole (Number number) = false

abbrev pub is_last : WhichMap → Bool
is_last Last = true
is_last Sole = false
is_last (Number number) = false

abbrev pub number_of : WhichMap → ℕ
number_of Sole = 1
number_of Last = 0
number_of (Number number) = number

abbrev pub none_begun : MapsBegun
none_begun = record { count = 0; first = 0; last = 0; broken = 0 }

-- those behind one more that begins in a line
abbrev pub begun_with : MapsBegun → ℕ → MapsBegun
begun_with begun line = record begun { count = one_more begun.count; first = if begun.count == 0 then line else begun.first; last = line }

abbrev pub starts : Option Format → WhichMap → State
starts format which = record { which = which; format = format; begun = none_begun; between = true; low = 0; ahead = number_of which; wanted = nothing_settled }

-- ---- maps

-- The last map takes the place of those before it.
abbrev pub opened : State → ℕ → State
opened s line = record s {
  begun = begun_with s.begun line;
  between = false;
  ahead = if nat_lt 0 s.begun.count then s.ahead - 1 else s.ahead;
  wanted = if is_last s.which then nothing_settled else s.wanted;
}

abbrev pub begun_at : State → ℕ → State
begun_at s line = if s.between then opened s line else s

abbrev pub with_shown : State → Shown → State
with_shown s shown = if is_last s.which || s.ahead == 1 then record s { wanted = settled_with s.wanted shown } else s

-- ---- a line

abbrev pub taken_shown : State → Shown → ℕ → State
taken_shown s Nothing line = s
taken_shown s (Range claim) line = with_shown (begun_at s line) (Range claim)
taken_shown s (Fault fault) line = with_shown (begun_at s line) (Fault fault)

-- the first line that breaks off is kept
abbrev pub begun_behind : MapsBegun → Format → ℕ → List ℕ → MapsBegun
begun_behind begun format number line = if begun.broken == 0 && breaks_off format line then record begun { broken = number } else begun

-- The line is of a format, and may begin a map or break off.
abbrev pub headed : State → Format → ℕ → List ℕ → Shown → State
headed s format number line shown = record s {
  format = Some format;
  begun = begun_behind s.begun format number line;
  between = begins_map format s.low line shown || s.between;
  low = low_behind s.low shown;
}

abbrev pub taken_in : State → Option Format → ℕ → List ℕ → State
taken_in s None number line = s
taken_in s (Some format) number line = taken_shown (headed s format number line (shown_in format number line)) (shown_in format number line) number

abbrev pub taken : State → ℕ → List ℕ → Result State MapFault
taken s number line = if is_too_long line then Err (LongLine (past_limit number)) else Ok (taken_in s (chosen s.format number line) number line)

-- ---- all lines

abbrev pub map_of_pieces : Option Format → Settled → MapsBegun → Result MemoryMap MapFault
map_of_pieces None s begun = Err (NoMap begun)
map_of_pieces (Some format) s begun =
    if length s.pieces == 0 then Err (NoMap begun) else Ok (record { format = format; ranges = record { items = joined (ranges_of s.pieces) }; overlap = s.overlap; broken = begun.broken })

-- A fault of the map that is wanted comes first, and then several maps where one is.
abbrev pub finished_by : Option MapFault → State → Result MemoryMap MapFault
finished_by (Some fault) s = Err fault
finished_by None s = if is_sole s.which && nat_lt 1 s.begun.count then Err (SeveralMaps s.begun) else map_of_pieces s.format s.wanted s.begun

abbrev pub finished : State → Result MemoryMap MapFault
finished s = finished_by s.wanted.fault s

abbrev pub ended : State → Place → Result MemoryMap MapFault
ended s end = finished s

abbrev pub log_from : State → ℕ → List (List ℕ) → Place → Result MemoryMap MapFault
log_from = run_from taken ended

abbrev pub log_map : Option Format → WhichMap → List ℕ → Result MemoryMap MapFault
log_map format which text = log_from (starts format which) 1 (lines_of text) (end_of text)
