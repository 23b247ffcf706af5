-- The text of a map (own).
--     map_text ranges      a line for each range, with its first and its last byte and its kind
--     map_of text      the ranges of a text, or its first fault
use Rattle.std.specs.Prelude.{ℕ, ◌≡◌, ◌≤◌, ◌<◌, ◌^◌, ◌==◌, nat_lt, not, Bool, true, codes, List, [], ◌∷◌, ◌++◌, length, map, if◌then◌else◌, Option, Some, None, Result, Ok, Err}
use Rattle.std.specs.List.{AllByRecursion}
use Rattle.arrayvec.specs.ArrayVec.{ArrayVec}
use Rattle.mt_dump.specs.Canon.{ended, value_text}
use Rattle.mt_dump.specs.Line.{is_word}
use Rattle.mt_rows.specs.declared.row.Fields.{Fields}
use Rattle.mt_rows.specs.Scan.{Part, parts_in, scanned}
use Rattle.mt_text.specs.Text.{end_of, is_too_long, lines_of, past_limit}
use Rattle.mt_text.specs.Words.{first_words, place_of, text_of}
use Rattle.mt_text.specs.declared.place.Place.{Place}
use Rattle.mt_memory_kinds.specs.declared.kind.MemoryKind.{MemoryKind}
use Rattle.mt_memory_kinds.specs.declared.kind.MemoryKind.TheVariants.{Ram, Reserved, Device, Acpi, Nvs, Unusable}
use Rattle.mt_memory_kinds.specs.declared.kind.MemoryRange.{MemoryRange}
use Rattle.mt_memory.specs.declared.map_fault.MapTextFault.{MapTextFault}
use Rattle.mt_memory.specs.declared.map_fault.MapTextReason.{MapTextReason}
use Rattle.mt_memory.specs.declared.map_fault.MapTextReason.TheVariants.{LongLine, BadRange, Backward, NoKind, BadKind, ExtraWord, NotAscending, TooManyRanges}
use Rattle.mt_memory.specs.declared.own_text.MapReader.{MapReader}
use Rattle.mt_memory.specs.declared.own_text.TheConstants.{RANGE}
use Rattle.mt_memory_kinds.specs.Ranges.{AreAscending}
use Rattle.mt_memory.specs.Steps.{run_from}

-- ---- writing

abbrev pub kind_name : MemoryKind → List ℕ
kind_name Ram = codes "ram"
kind_name Reserved = codes "reserved"
kind_name Device = codes "device"
kind_name Acpi = codes "acpi"
kind_name Nvs = codes "nvs"
kind_name Unusable = codes "unusable"

-- `0000000000000000-000000000009fbff ram`
abbrev pub range_word : MemoryRange → List ℕ
range_word range = value_text range.first ++ 45 ∷ value_text range.last

abbrev pub range_line : MemoryRange → List ℕ
range_line range = range_word range ++ 32 ∷ kind_name range.kind

abbrev pub map_text : List MemoryRange → List ℕ
map_text ranges = ended (map range_line ranges)

-- ---- reading

abbrev pub kind_of : List ℕ → Option MemoryKind
kind_of word =
    if is_word (codes "ram") word then Some Ram
    else if is_word (codes "reserved") word then Some Reserved
    else if is_word (codes "device") word then Some Device
    else if is_word (codes "acpi") word then Some Acpi
    else if is_word (codes "nvs") word then Some Nvs
    else if is_word (codes "unusable") word then Some Unusable
    else None

abbrev pub fault_at : MapTextReason → Place → MapTextFault
fault_at reason place = record { reason = reason; place = place }

abbrev pub Answer : Type 0
Answer = Result MemoryRange MapTextFault

-- the first word
abbrev pub range_row : List Part
range_row = parts_in RANGE

abbrev pub of_kind : ℕ → List (ℕ × List ℕ) → ℕ → ℕ → Option MemoryKind → Answer
of_kind number words first last None = Err (fault_at BadKind (place_of number words 1))
of_kind number words first last (Some kind) =
    if nat_lt 2 (length words) then Err (fault_at ExtraWord (place_of number words 2)) else Ok (record { first = first; last = last; kind = kind })

abbrev pub of_numbers : ℕ → List (ℕ × List ℕ) → ℕ → ℕ → Answer
of_numbers number words first last =
    if nat_lt last first then Err (fault_at Backward (place_of number words 0))
    else if length words == 1 then Err (fault_at NoKind (place_of number words 0))
    else of_kind number words first last (kind_of (text_of words 1))

abbrev pub by_fields : ℕ → List (ℕ × List ℕ) → Option Fields → Answer
by_fields number words None = Err (fault_at BadRange (place_of number words 0))
by_fields number words (Some fields) = of_numbers number words fields.second_last.value fields.last.value

-- the range of a line that has words
abbrev pub line_range : ℕ → List (ℕ × List ℕ) → Answer
line_range number words = by_fields number words (scanned range_row (text_of words 0))

abbrev pub reads_nothing : MapReader
reads_nothing = record { ranges = record { items = [] }; last = None }

-- a byte lies above ranges of which the last ends there
abbrev pub follows : Option ℕ → ℕ → Bool
follows None first = true
follows (Some last) first = nat_lt last first

abbrev pub added : MapReader → MemoryRange → Place → Result MapReader MapTextFault
added reader range place =
    if not (follows reader.last range.first) then Err (fault_at NotAscending place)
    else if length reader.ranges.items == 512 then Err (fault_at TooManyRanges place)
    else Ok (record { ranges = record { items = reader.ranges.items ++ range ∷ [] }; last = Some range.last })

abbrev pub by_range : MapReader → Place → Answer → Result MapReader MapTextFault
by_range reader place (Ok range) = added reader range place
by_range reader place (Err fault) = Err fault

abbrev pub by_words : MapReader → ℕ → List (ℕ × List ℕ) → Result MapReader MapTextFault
by_words reader number words = if length words == 0 then Ok reader else by_range reader (place_of number words 0) (line_range number words)

-- what a line makes of what was read before it
abbrev pub taken : MapReader → ℕ → List ℕ → Result MapReader MapTextFault
taken reader number line = if is_too_long line then Err (fault_at LongLine (past_limit number)) else by_words reader number (first_words number line).words

abbrev pub finished : MapReader → Place → Result (ArrayVec MemoryRange) MapTextFault
finished reader end = Ok reader.ranges

abbrev pub map_from : MapReader → ℕ → List (List ℕ) → Place → Result (ArrayVec MemoryRange) MapTextFault
map_from = run_from taken finished

abbrev pub map_of : List ℕ → Result (ArrayVec MemoryRange) MapTextFault
map_of text = map_from reads_nothing 1 (lines_of text) (end_of text)

-- ---- laws

-- What is written reads back: ranges in ascending order, of which no two share a byte.
abbrev pub WrittenReadsBack : Type 0
WrittenReadsBack = (ranges : List MemoryRange) → AreAscending 0 ranges → AllByRecursion (λ (range : MemoryRange). range.last < 2 ^ 64) ranges → length ranges ≤ 512
    → map_of (map_text ranges) ≡ Ok (record { items = ranges })
