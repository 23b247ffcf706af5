-- Where the values of a dump come from, and lines that contradict each other, in terms of what the lines of a log show (own).
--     readings_of choice text      what the lines of a log show of registers
--     Origin supplied seen k number value      the lines, the word or the assumption that gives a register of processor k this value
use Rattle.std.specs.Prelude.{ℕ, ◌≡◌, ◌≢◌, ◌<◌, ◌⊎◌, ◌+◌, ◌==◌, Bool, true, false, List, [], ◌∷◌, ◌++◌, length, if◌then◌else◌, Some, None, slice_get}
use Rattle.std.specs.Int.{bit_at}
use Rattle.mt_ports.specs.Causes.{one_more}
use Rattle.mt_text.specs.Text.{lines_of}
use Rattle.mt_text.specs.declared.place.Place.{Place}
use Rattle.mt_regs.specs.RegisterFile.{RegisterFile}
use Rattle.mt_dump.specs.Canon.{canon, file_lines, register_line}
use Rattle.mt_dump.specs.Dumps.{Dump}
use Rattle.mt_import.specs.declared.format.Choice.{Choice}
use Rattle.mt_import.specs.declared.reading.Context.{Context}
use Rattle.mt_import.specs.declared.reading.LineSays.{LineSays}
use Rattle.mt_import.specs.declared.reading.LineSays.TheVariants.{Nothing, Announces, Value, Turns, Shows, Lists, Begins, FixedRanges, VariableRanges, Width, Warns, Bad}
use Rattle.mt_import.specs.declared.shape.Reading.{Reading}
use Rattle.mt_import.specs.Readings.{Fact, is_register_value, is_width, starts}
use Rattle.mt_import.specs.Census.{format_of}
use Rattle.mt_import.specs.Shown.{context_behind, facts_of_line, said_in, shown}
use Rattle.mt_import.specs.Supplied.{Supplied, supplied_value}
use Rattle.mt_import.specs.Slot.{whole_value}
use Rattle.mt_import.specs.Values.{assumed_of, assumed_value, is_pair_number, assumed_width, mask_of, width_by}
use Rattle.mt_import.specs.Outcome.{Seen, Outcome, capabilities_shown, counted, counts_fewer, dump_in, least_count, findings_of, known_by, needed, notes_of, nothing_seen, processors, seen_after, slot_shown, values_of}

abbrev pub IsAmong : {A : Type 0} → A → List A → Type 0
IsAmong x [] = ⊥
IsAmong x (y ∷ ys) = (y ≡ x) ⊎ IsAmong x ys

-- what the lines of a log lead to
abbrev pub seen_of : Choice → List ℕ → Seen
seen_of choice text = seen_after (nothing_seen (format_of choice text)) (shown (format_of choice text) text)

abbrev pub readings_of : Choice → List ℕ → List Reading
readings_of choice text = (seen_of choice text).readings

-- ---- lines

abbrev pub context_after_lines : Context → ℕ → List (List ℕ) → Context
context_after_lines context number [] = context
context_after_lines context number (line ∷ lines) = context_after_lines (context_behind context number line) (number + 1) lines

-- A line of the log says this, behind the lines before it.
pub record IsOfLine (choice : Choice) (text : List ℕ) (fact : Fact) : Type 0 where
  pub before : List (List ℕ)
  pub line : List ℕ
  pub others : List (List ℕ)
  pub lines : lines_of text ≡ before ++ line ∷ others
  pub shows : IsAmong fact (facts_of_line (context_after_lines (starts (format_of choice text)) 1 before) (1 + length before) line)

-- ---- tables

-- the heading of a table
abbrev pub is_heading : LineSays → Bool
is_heading (Begins shows) = true
is_heading Nothing = false
is_heading (Announces processor number) = false
is_heading (Value value place) = false
is_heading (Turns turn) = false
is_heading (Shows processor shows) = false
is_heading (FixedRanges enabled alone place) = false
is_heading (VariableRanges enabled place) = false
is_heading (Width width place) = false
is_heading (Warns warning number) = false
is_heading (Lists processor shown) = false
is_heading (Bad why place) = false

abbrev pub heads : Context → ℕ → List ℕ → Bool
heads context number line = is_heading (said_in context.format number line)

-- how many tables have begun behind lines, of which the first has this number
abbrev pub tables_behind : Context → ℕ → List (List ℕ) → ℕ → ℕ
tables_behind context number [] tables = tables
tables_behind context number (line ∷ lines) tables = tables_behind (context_behind context number line) (number + 1) lines (if heads context number line then one_more tables else tables)

-- A line shows this. It is of the table that the last heading begins, up to the line itself.
pub record IsRead (choice : Choice) (text : List ℕ) (reading : Reading) : Type 0 where
  pub of_line : IsOfLine choice text (is_register_value reading)
  pub table : reading.table ≡ tables_behind (starts (format_of choice text)) 1 (of_line.before ++ of_line.line ∷ []) 0

-- ---- one register

-- Two readings of one register of one processor show another bit.
pub record Contradict (a b : Reading) : Type 0 where
  pub processor : a.processor ≡ b.processor
  pub number : a.number ≡ b.number
  pub bit : ℕ
  pub first : bit_at a.bits bit ≡ 1
  pub second : bit_at b.bits bit ≡ 1
  pub differ : bit_at a.value bit ≢ bit_at b.value bit

-- Two readings of the capability register, of whatever processors, show another bit.
pub record ContradictInCapabilities (a b : Reading) : Type 0 where
  pub number : a.number ≡ 0xfe
  pub number_too : b.number ≡ 0xfe
  pub bit : ℕ
  pub first : bit_at a.bits bit ≡ 1
  pub second : bit_at b.bits bit ≡ 1
  pub differ : bit_at a.value bit ≢ bit_at b.value bit

-- A reading shows another bit than a word.
pub record ContradictsWord (supplied : Supplied) (a : Reading) : Type 0 where
  pub value : ℕ
  pub given : supplied_value supplied a.number ≡ Some value
  pub bit : ℕ
  pub shown_bit : bit_at a.bits bit ≡ 1
  pub differ : bit_at value bit ≢ bit_at a.value bit

-- a reading of this register that shows this bit
pub record ShowsBit (readings : List Reading) (processor number i : ℕ) : Type 0 where
  pub reading : Reading
  pub among : IsAmong reading readings
  pub processor_is : reading.processor ≡ processor
  pub number_is : reading.number ≡ number
  pub shown_bit : bit_at reading.bits i ≡ 1

-- Lines of one table show all bits of a register, with this value.
pub record IsShown (readings : List Reading) (processor number value : ℕ) : Type 0 where
  pub table : ℕ
  pub bits : (i : ℕ) → i < 64 → (b : ShowsBit readings processor number i) × (b.reading.table ≡ table) × (bit_at b.reading.value i ≡ bit_at value i)

-- Lines show that V of the register's pair, bit 11 of PhysMask, is clear, and no other bit of PhysMask, and so both registers are 0.
pub record IsDisabled (readings : List Reading) (processor number value : ℕ) : Type 0 where
  pub zero : value ≡ 0
  pub pair : is_pair_number number ≡ true
  pub valid : ShowsBit readings processor (mask_of number) 11
  pub clear : bit_at valid.reading.value 11 ≡ 0
  pub alone : (i : ℕ) → ShowsBit readings processor (mask_of number) i → i ≡ 11

-- no table and no line shows all of a register
abbrev pub IsUnshown : List Reading → ℕ → ℕ → Type 0
IsUnshown readings processor number = whole_value (slot_shown readings processor number) ≡ None

-- The register is neither shown nor supplied.
abbrev pub IsUntold : Supplied → List Reading → ℕ → ℕ → Type 0
IsUntold supplied readings processor number = IsUnshown readings processor number × (supplied_value supplied number ≡ None)

-- its value is that of an assumption that a word allows
abbrev pub IsAssumed : Supplied → Seen → ℕ → ℕ → ℕ → Type 0
IsAssumed supplied seen processor number value =
    assumed_value (assumed_of processor supplied.assumed) (slot_shown seen.readings processor) (known_by supplied (findings_of seen)) number ≡ Some value

-- Lines come before a word, and a word before a pair that is off and an assumption.
pub data Origin (supplied : Supplied) (seen : Seen) (processor number value : ℕ) : Type 0 where
  by_lines : IsShown seen.readings processor number value → Origin supplied seen processor number value
  by_word : IsUnshown seen.readings processor number → supplied_value supplied number ≡ Some value → Origin supplied seen processor number value
  by_disabled : IsUntold supplied seen.readings processor number → IsDisabled seen.readings processor number value → Origin supplied seen processor number value
  by_assumption : IsUntold supplied seen.readings processor number → IsAssumed supplied seen processor number value → Origin supplied seen processor number value

-- VCNT, as lines show it and as a word supplies it, counts the pair that a reading shows as enabled.
pub record CountsPair (supplied : Supplied) (readings : List Reading) (a : Reading) : Type 0 where
  pub shown : counts_fewer (counted (capabilities_shown readings)) (least_count a) ≡ false
  pub given : counts_fewer (supplied_value supplied 0xfe) (least_count a) ≡ false

-- ---- lines on fixed ranges

-- what a line says: that fixed ranges are enabled, or that they are disabled
abbrev pub SaysFixed : LineSays → Bool → Type 0
SaysFixed (FixedRanges enabled alone place) on = enabled ≡ on
SaysFixed Nothing on = ⊥
SaysFixed (Announces processor number) on = ⊥
SaysFixed (Value value place) on = ⊥
SaysFixed (Turns turn) on = ⊥
SaysFixed (Shows processor shows) on = ⊥
SaysFixed (Begins shows) on = ⊥
SaysFixed (VariableRanges enabled place) on = ⊥
SaysFixed (Width width place) on = ⊥
SaysFixed (Warns warning number) on = ⊥
SaysFixed (Lists processor shown) on = ⊥
SaysFixed (Bad why place) on = ⊥

-- one of these lines says so
abbrev pub LinesSayFixed : Context → ℕ → List (List ℕ) → Bool → Type 0
LinesSayFixed context number [] on = ⊥
LinesSayFixed context number (line ∷ lines) on =
    SaysFixed (said_in context.format number line) on ⊎ LinesSayFixed (context_behind context number line) (number + 1) lines on

abbrev pub LogSaysFixed : Choice → List ℕ → Bool → Type 0
LogSaysFixed choice text on = LinesSayFixed (starts (format_of choice text)) 1 (lines_of text) on

-- ---- the width

-- a line, a word or an assumption that gives the width, one behind the other
pub data WidthOrigin (choice : Choice) (supplied : Supplied) (text : List ℕ) (width : ℕ) : Type 0 where
  width_by_line : (place : Place) → IsOfLine choice text (is_width width place) → WidthOrigin choice supplied text width
  width_by_word : (seen_of choice text).width ≡ None → supplied.width ≡ Some width → WidthOrigin choice supplied text width
  width_by_masks : (seen_of choice text).width ≡ None → supplied.width ≡ None
      → assumed_width supplied (slot_shown (readings_of choice text) 0) ≡ Some width → WidthOrigin choice supplied text width

-- ---- a dump

-- the dump of this width and capability register
abbrev pub dump_by : Supplied → Seen → ℕ → ℕ → Dump
dump_by supplied seen width capabilities = dump_in (values_of supplied (findings_of seen)) (processors seen.readings) width capabilities

-- The section of processor k has a line with this value of the register.
pub record IsInSection (dump : Dump) (k number value : ℕ) : Type 0 where
  pub file : RegisterFile
  pub section : slice_get dump.files k ≡ Some file
  pub line : IsAmong (register_line number value) (file_lines file)

-- Each section has 0FEH of processor 0, and every other register of its own processor.
abbrev pub owner : ℕ → ℕ → ℕ
owner k number = if number == 0xfe then 0 else k

-- The dump has a section for each processor, with a value for each register that it needs, and each value has an origin.
pub record HasOrigins (supplied : Supplied) (seen : Seen) (told : Outcome) : Type 0 where
  pub width : ℕ
  pub capabilities : ℕ
  pub width_is : width_by supplied (slot_shown seen.readings) seen.width ≡ Some width
  pub capabilities_is : values_of supplied (findings_of seen) 0 0xfe ≡ Some capabilities
  pub notes_are : told.notes ≡ notes_of supplied (findings_of seen)
  pub dump_is : told.dump ≡ canon (dump_by supplied seen width capabilities)
  pub sections : length (dump_by supplied seen width capabilities).files ≡ processors seen.readings
  pub in_section : (k number value : ℕ) → k < processors seen.readings → IsAmong number (needed (Some capabilities))
      → values_of supplied (findings_of seen) (owner k number) number ≡ Some value
      → IsInSection (dump_by supplied seen width capabilities) k number value
  pub each : (k number : ℕ) → k < processors seen.readings → IsAmong number (needed (Some capabilities))
      → (value : ℕ) × (values_of supplied (findings_of seen) k number ≡ Some value)
      × Origin supplied seen k number value
