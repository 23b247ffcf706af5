-- What holds of a map, and the maps of a log (own).
--     AreLongest ranges      no two neighbours of one kind touch
--     maps_of format lines      what the lines of each map show
--     kind_shown known shown byte      the kind of a byte behind lines that show this
use Rattle.std.specs.Prelude.{ℕ, ◌≡◌, ◌≤◌, ◌<◌, ◌+◌, ◌-◌, ◌==◌, Bool, true, false, List, [], ◌∷◌, ◌++◌, length, map, if◌then◌else◌, Option, Some, None, Ok, ⊤}
use Rattle.std.specs.List.{AllByRecursion}
use Rattle.mt_text.specs.Text.{is_too_long, lines_of, without_return}
use Rattle.mt_memory.specs.declared.format.Claim.{Claim}
use Rattle.mt_memory.specs.declared.format.Format.{Format}
use Rattle.mt_memory.specs.declared.format.MemoryMap.{MemoryMap}
use Rattle.mt_memory.specs.declared.format.Overlap.{Overlap}
use Rattle.mt_memory.specs.declared.format.Shown.{Shown}
use Rattle.mt_memory.specs.declared.format.Shown.TheVariants.{Nothing, Range, Fault}
use Rattle.mt_memory.specs.declared.format.WhichMap.{WhichMap}
use Rattle.mt_memory.specs.declared.format.WhichMap.TheVariants.{Sole, Last, Number}
use Rattle.mt_memory_kinds.specs.declared.kind.MemoryKind.{MemoryKind}
use Rattle.mt_memory_kinds.specs.declared.kind.MemoryRange.{MemoryRange}
use Rattle.mt_memory.specs.Laying.{goes_on, joined, laid, ranges_of}
use Rattle.mt_memory_kinds.specs.Ranges.{AreAscending, has, kind_at}
use Rattle.mt_memory.specs.Log.{State, log_map, taken}
use Rattle.mt_memory.specs.Showing.{begins_map, breaks_off, chosen, has_title, shown_in}

abbrev pub AreLongest : List MemoryRange → Type 0
AreLongest [] = ⊤
AreLongest (range ∷ []) = ⊤
AreLongest (range ∷ next ∷ ranges) = (goes_on range next ≡ false) × AreLongest (next ∷ ranges)

-- ---- the maps of a log

-- the format that is known behind lines, of which the first has this number
abbrev pub log_format : Option Format → ℕ → List (List ℕ) → Option Format
log_format known number [] = known
log_format known number (line ∷ lines) = log_format (chosen known number line) (number + 1) lines

-- the first line that breaks off, of lines of which the first has this number, or 0
abbrev pub breaks_in : Option Format → List ℕ → Bool
breaks_in None line = false
breaks_in (Some format) line = breaks_off format line

abbrev pub first_broken : Option Format → ℕ → List (List ℕ) → ℕ
first_broken known number [] = 0
first_broken known number (line ∷ lines) = if breaks_in (chosen known number line) line then number else first_broken (chosen known number line) (number + 1) lines

-- What lines show, cut where a map begins: that of each map before the last such place, and that since. Nothing between two places is no map.
pub record Cut : Type 0 where
  pub done : List (List Shown)
  pub now : List Shown
  pub low : ℕ  -- the first byte of the last range

abbrev pub added : List (List Shown) → List Shown → List (List Shown)
added done [] = done
added done (shown ∷ more) = done ++ (shown ∷ more) ∷ []

abbrev pub cut_at : Bool → Cut → Cut
cut_at begins cut = if begins then record cut { done = added cut.done cut.now; now = [] } else cut

abbrev pub cut_with : Cut → Shown → Cut
cut_with cut Nothing = cut
cut_with cut (Range claim) = record cut { now = cut.now ++ Range claim ∷ []; low = claim.range.first }
cut_with cut (Fault fault) = record cut { now = cut.now ++ Fault fault ∷ [] }

abbrev pub cut_shown : Format → Cut → List ℕ → Shown → Cut
cut_shown format cut line shown = cut_with (cut_at (begins_map format cut.low line shown) cut) shown

abbrev pub cut_line : Format → Cut → ℕ → List ℕ → Cut
cut_line format cut number line = cut_shown format cut line (shown_in format number line)

abbrev pub cut_lines : Format → Cut → ℕ → List (List ℕ) → Cut
cut_lines format cut number [] = cut
cut_lines format cut number (line ∷ lines) = cut_lines format (cut_line format cut number line) (number + 1) lines

abbrev pub maps_in : Cut → List (List Shown)
maps_in cut = added cut.done cut.now

abbrev pub nothing_cut : Cut
nothing_cut = record { done = []; now = []; low = 0 }

abbrev pub maps_of : Format → List (List ℕ) → List (List Shown)
maps_of format lines = maps_in (cut_lines format nothing_cut 1 lines)

-- the map of a number, counted from 1
abbrev pub map_at : ℕ → List (List Shown) → List Shown
map_at number [] = []
map_at number (map ∷ maps) = if number == 1 then map else map_at (number - 1) maps

abbrev pub last_of : List (List Shown) → List Shown
last_of [] = []
last_of (map ∷ []) = map
last_of (map ∷ next ∷ maps) = last_of (next ∷ maps)

abbrev pub picked : WhichMap → List (List Shown) → List Shown
picked Sole maps = map_at 1 maps
picked Last maps = last_of maps
picked (Number number) maps = map_at number maps

-- the kind of a byte behind lines that show this: each one that has the byte gives it its kind
abbrev pub kind_shown : Option MemoryKind → List Shown → ℕ → Option MemoryKind
kind_shown known [] byte = known
kind_shown known (Nothing ∷ shown) byte = kind_shown known shown byte
kind_shown known (Range claim ∷ shown) byte = kind_shown (if has claim.range byte then Some claim.range.kind else known) shown byte
kind_shown known (Fault fault ∷ shown) byte = kind_shown known shown byte

abbrev pub IsNoFault : Shown → Type 0
IsNoFault Nothing = ⊤
IsNoFault (Range claim) = ⊤
IsNoFault (Fault fault) = ⊥

-- ---- lines that show the same bytes

-- no byte of the range is shown by these lines
abbrev pub IsNew : List Shown → Shown → Type 0
IsNew before Nothing = ⊤
IsNew before (Range claim) = (byte : ℕ) → has claim.range byte ≡ true → kind_shown None before byte ≡ None
IsNew before (Fault fault) = ⊤

-- no line shows a byte of a line before it
abbrev pub AreApart : List Shown → List Shown → Type 0
AreApart before [] = ⊤
AreApart before (shown ∷ more) = IsNew before shown × AreApart (before ++ shown ∷ []) more

abbrev pub ShareBytes : MemoryRange → MemoryRange → Type 0
ShareBytes a b = (byte : ℕ) × (has a byte ≡ true) × (has b byte ≡ true)

-- a line shows a byte of a line before it
pub record Overlaps (shown : List Shown) (told : Overlap) : Type 0 where
  pub before : List Shown
  pub earlier : Claim
  pub between : List Shown
  pub later : Claim
  pub behind : List Shown
  pub are : shown ≡ before ++ Range earlier ∷ (between ++ Range later ∷ behind)
  pub share : ShareBytes earlier.range later.range
  pub lines : told ≡ record { line = later.place.line; earlier = earlier.place.line }

abbrev pub IsOverlapOf : List Shown → Option Overlap → Type 0
IsOverlapOf shown None = AreApart [] shown
IsOverlapOf shown (Some told) = Overlaps shown told

-- ---- laws

-- A byte of a line's range has its kind from then on, and every other byte the kind that it had.
abbrev pub LaterCounts : Type 0
LaterCounts = (claim : Claim) (pieces : List Claim) (byte : ℕ) → claim.range.first ≤ claim.range.last
    → kind_at (ranges_of (laid claim pieces)) byte ≡ (if has claim.range byte then Some claim.range.kind else kind_at (ranges_of pieces) byte)

-- Joined ranges give each byte the kind that it had.
abbrev pub JoinedIsSame : Type 0
JoinedIsSame = (ranges : List MemoryRange) (byte : ℕ) → AreAscending 0 ranges → kind_at (joined ranges) byte ≡ kind_at ranges byte

-- What the lines of the wanted map show comes to this map: none has a fault, and a byte has the kind of the last line that shows it. The map's
-- ranges ascend and are the longest. Two lines are told if and only if some line shows a byte of a line before it.
pub record IsSettledMap (shown : List Shown) (found : MemoryMap) : Type 0 where
  pub no_fault : AllByRecursion IsNoFault shown
  pub ascending : AreAscending 0 found.ranges.items
  pub longest : AreLongest found.ranges.items
  pub kinds : (byte : ℕ) → kind_at found.ranges.items byte ≡ kind_shown None shown byte
  pub overlap : IsOverlapOf shown found.overlap

-- The map of a log, whose lines aren't too long. A line that breaks off is told if and only if there is one.
pub record IsMapOf (named : Option Format) (which : WhichMap) (lines : List (List ℕ)) (found : MemoryMap) : Type 0 where
  pub short : AllByRecursion (λ line. is_too_long line ≡ false) lines
  pub format : log_format named 1 lines ≡ Some found.format
  pub sole : which ≡ Sole → length (maps_of found.format lines) ≤ 1
  pub settled : IsSettledMap (picked which (maps_of found.format lines)) found
  pub broken : found.broken ≡ first_broken named 1 lines

abbrev pub MapsAreShown : Type 0
MapsAreShown = (named : Option Format) (which : WhichMap) (text : List ℕ) (found : MemoryMap) → log_map named which text ≡ Ok found → IsMapOf named which (lines_of text) found

-- The lines of the wanted map show these ranges, in ascending order: the map has them, and no overlap is told.
pub record ShowsInOrder (named : Option Format) (which : WhichMap) (lines : List (List ℕ)) (format : Format) (claims : List Claim) : Type 0 where
  pub short : AllByRecursion (λ line. is_too_long line ≡ false) lines
  pub is_format : log_format named 1 lines ≡ Some format
  pub sole : which ≡ Sole → length (maps_of format lines) ≤ 1
  pub shown : picked which (maps_of format lines) ≡ map Range claims
  pub some : 1 ≤ length claims
  pub few : length claims ≤ 512
  pub ascending : AreAscending 0 (ranges_of claims)

abbrev pub MapsAreGiven : Type 0
MapsAreGiven = (named : Option Format) (which : WhichMap) (text : List ℕ) (format : Format) (claims : List Claim) → ShowsInOrder named which (lines_of text) format claims
    → log_map named which text ≡ Ok (record { format = format; ranges = record { items = joined (ranges_of claims) }; overlap = None; broken = first_broken named 1 (lines_of text) })

-- A line that begins no map, shows nothing and doesn't break off changes nothing.
abbrev pub SpareLines : Type 0
SpareLines = (state : State) (format : Format) (number : ℕ) (line : List ℕ) → state.format ≡ Some format → is_too_long line ≡ false
    → has_title format line ≡ false → shown_in format number line ≡ Nothing → breaks_off format line ≡ false → taken state number line ≡ Ok state

-- Nor does one that tells no format, while none is known.
abbrev pub SpareHeads : Type 0
SpareHeads = (state : State) (number : ℕ) (line : List ℕ) → is_too_long line ≡ false → chosen state.format number line ≡ None → taken state number line ≡ Ok state

-- A CR at the end of a line changes nothing, unless the line ends with one already or has 4,096 bytes.
abbrev pub ReturnsChangeNothing : Type 0
ReturnsChangeNothing = (state : State) (number : ℕ) (line : List ℕ) → without_return line ≡ line → length line < 4096
    → taken state number (line ++ 13 ∷ []) ≡ taken state number line
