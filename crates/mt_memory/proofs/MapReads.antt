-- What is written of a map reads back.
use Rattle.std.proofs.Common.{◌≡◌, ◌∙◌, ◌≤◌, ◌<◌, ◌+◌, ◌^◌, ◌==◌, ◌&&◌, ℕ, true, false, nat_lt, List, [], ◌∷◌, ◌++◌, length, take, Option, Some, None, Ok, refl, sym, ap, arith, append_assoc, append-nil, length-append}
use Rattle.std.specs.List.{AllByRecursion, list_all}
use Rattle.std.proofs.lemmas.Bool.Decides.{nat_tests}
use Rattle.hex.specs.Hex.{is_hex_digit}
use Rattle.mt_text.specs.Text.{end_of, is_too_long, is_word_byte, lines_of, words_from, words_of}
use Rattle.mt_text.specs.Number.{hex_number}
use Rattle.mt_text.specs.Words.{place_of}
use Rattle.mt_text.specs.declared.place.Place.{Place}
use Rattle.mt_text.proofs.Plain.{digits_plain, digits_word, is_plain, lines_of-line, plain_content, plain_ending, two_words_from}
use Rattle.mt_dump.specs.Canon.{value_text}
use Rattle.mt_dump.proofs.Canonical.{all_append, value_digits, value_length, value_read}
use Rattle.mt_rows.specs.declared.row.Fields.{Fields}
use Rattle.mt_rows.specs.Scan.{is_within, items, no_fields, read_by, scan, scanned}
use Rattle.mt_rows.specs.Printed.{fit, is_number, printed, shown}
use Rattle.mt_rows.proofs.Prints.{printed_is_read}
use Rattle.mt_memory_kinds.specs.declared.kind.MemoryKind.{MemoryKind}
use Rattle.mt_memory_kinds.specs.declared.kind.MemoryKind.TheVariants.{Ram, Reserved, Device, Acpi, Nvs, Unusable}
use Rattle.mt_memory_kinds.specs.declared.kind.MemoryRange.{MemoryRange}
use Rattle.mt_memory.specs.declared.own_text.MapReader.{MapReader}
use Rattle.mt_memory_kinds.specs.Ranges.{AreAscending}
use Rattle.mt_memory.specs.MapText.{WrittenReadsBack, added, by_fields, by_range, by_words, follows, kind_name, kind_of, line_range, map_from, map_text, of_kind, of_numbers, range_line, range_row, range_word, reads_nothing, taken}
use Rattle.mt_memory.specs.Steps.{and_then}

-- ---- kinds

name_plain : (kind : MemoryKind) → list_all is_plain (kind_name kind) ≡ true
name_plain Ram = refl
name_plain Reserved = refl
name_plain Device = refl
name_plain Acpi = refl
name_plain Nvs = refl
name_plain Unusable = refl

name_word : (kind : MemoryKind) → list_all is_word_byte (kind_name kind) ≡ true
name_word Ram = refl
name_word Reserved = refl
name_word Device = refl
name_word Acpi = refl
name_word Nvs = refl
name_word Unusable = refl

name_some : (kind : MemoryKind) → 1 ≤ length (kind_name kind)
name_some Ram = omega arith
name_some Reserved = omega arith
name_some Device = omega arith
name_some Acpi = omega arith
name_some Nvs = omega arith
name_some Unusable = omega arith

pub name_few : (kind : MemoryKind) → length (kind_name kind) ≤ 8
name_few Ram = omega arith
name_few Reserved = omega arith
name_few Device = omega arith
name_few Acpi = omega arith
name_few Nvs = omega arith
name_few Unusable = omega arith

name_read : (kind : MemoryKind) → kind_of (kind_name kind) ≡ Some kind
name_read Ram = refl
name_read Reserved = refl
name_read Device = refl
name_read Acpi = refl
name_read Nvs = refl
name_read Unusable = refl

-- ---- a line

plain_value : (value : ℕ) → list_all is_plain (value_text value) ≡ true
plain_value value = digits_plain (value_text value) (value_digits value)

word_value : (value : ℕ) → list_all is_word_byte (value_text value) ≡ true
word_value value = digits_word (value_text value) (value_digits value)

range_plain : (range : MemoryRange) → list_all is_plain (range_word range) ≡ true
range_plain range = all_append is_plain (value_text range.first) (45 ∷ value_text range.last) (plain_value range.first) (plain_value range.last)

range_letters : (range : MemoryRange) → list_all is_word_byte (range_word range) ≡ true
range_letters range = all_append is_word_byte (value_text range.first) (45 ∷ value_text range.last) (word_value range.first) (word_value range.last)

range_long : (range : MemoryRange) → length (range_word range) ≡ 33
range_long range =
    let first = value_length range.first in
    let last = value_length range.last in
    let both = length-append (value_text range.first) (45 ∷ value_text range.last) in
    omega (arith, first, last, both)

line_plain : (range : MemoryRange) → list_all is_plain (range_line range) ≡ true
line_plain range = all_append is_plain (range_word range) (32 ∷ kind_name range.kind) (range_plain range) (name_plain range.kind)

pub line_long : (range : MemoryRange) → length (range_line range) ≤ 42
line_long range =
    let word = range_long range in
    let name = name_few range.kind in
    let both = length-append (range_word range) (32 ∷ kind_name range.kind) in
    omega (arith, word, name, both)

line_words : (range : MemoryRange) → words_of (range_line range) ≡ (0, range_word range) ∷ (0 + length (range_word range) + 1, kind_name range.kind) ∷ []
line_words range =
    let long = range_long range in
    ap (words_from 0) (plain_content (range_line range) (line_plain range))
    ∙ two_words_from 0 (range_word range) (kind_name range.kind) (omega (arith, long)) (name_some range.kind) (range_letters range) (name_word range.kind)

-- ---- its first word

number_fits : (value : ℕ) → value < 2 ^ 64 → (list_all is_hex_digit (value_text value) && is_within 1 16 (length (value_text value)) && is_number (hex_number (value_text value))) ≡ true
number_fits value small = rw (value_digits value, value_length value, value_read value small) refl

word_read : (range : MemoryRange) → range.first < 2 ^ 64 → range.last < 2 ^ 64
    → (fields : Fields) × (scanned range_row (range_word range) ≡ Some fields) × (fields.second_last.value ≡ range.first) × (fields.last.value ≡ range.last)
word_read range low high =
    let texts = value_text range.first ∷ value_text range.last ∷ [] in
    let size = length (range_word range) in
    let fields = shown size (items range_row) texts [] no_fields in
    let fits : fit (items range_row) texts ≡ true = rw (number_fits range.first low, number_fits range.last high) refl in
    let line : printed (items range_row) texts [] ≡ range_word range = ap (λ l. value_text range.first ++ 45 ∷ l) (append-nil (value_text range.last)) in
    let read = printed_is_read size (items range_row) texts [] no_fields refl fits refl in (
      fields,
      ap (λ l. read_by range_row l) (plain_ending (range_word range) (range_plain range)) ∙ ap (λ l. scan size (items range_row) l no_fields) (sym line) ∙ read,
      rw (value_read range.first low, value_read range.last high) refl,
      rw (value_read range.first low, value_read range.last high) refl,
    )

-- ---- its range

backward : (first last : ℕ) → first ≤ last → nat_lt last first ≡ false
backward first last order = grind (arith, nat_tests)

short : (line : List ℕ) → length line ≤ 42 → is_too_long line ≡ false
short line few = grind (arith, nat_tests)

full : (count : ℕ) → count < 512 → (count == 512) ≡ false
full count few = grind (arith, nat_tests)

-- the words of a range's line
abbrev pub words : MemoryRange → List (ℕ × List ℕ)
words range = (0, range_word range) ∷ (0 + length (range_word range) + 1, kind_name range.kind) ∷ []

numbers_read : (number : ℕ) (range : MemoryRange) → range.first ≤ range.last → of_numbers number (words range) range.first range.last ≡ Ok range
numbers_read number range order = rw (backward range.first range.last order) (ap (of_kind number (words range) range.first range.last) (name_read range.kind))

range_read : (number : ℕ) (range : MemoryRange) → range.first ≤ range.last → range.last < 2 ^ 64 → line_range number (words range) ≡ Ok range
range_read number range order high =
    let word = word_read range (omega (arith, order, high)) high in
    ap (by_fields number (words range)) word.1 ∙ ap (λ n. of_numbers number (words range) n word.0.last.value) word.2
    ∙ ap (λ n. of_numbers number (words range) range.first n) word.3 ∙ numbers_read number range order

line_read : (reader : MapReader) (number : ℕ) (range : MemoryRange) → follows reader.last range.first ≡ true → range.first ≤ range.last → range.last < 2 ^ 64 → length reader.ranges.items < 512
    → taken reader number (range_line range) ≡ Ok (record { ranges = record { items = reader.ranges.items ++ range ∷ [] }; last = Some range.last })
line_read reader number range above order high few =
    let here : taken reader number (range_line range) ≡ by_words reader number (take 7 (words_of (range_line range))) = rw (short (range_line range) (line_long range)) refl in
    let added_is : added reader range (place_of number (words range) 0) ≡ Ok (record { ranges = record { items = reader.ranges.items ++ range ∷ [] }; last = Some range.last }) =
    rw (above, full (length reader.ranges.items) few) refl in
    here ∙ ap (λ ws. by_words reader number (take 7 ws)) (line_words range) ∙ ap (by_range reader (place_of number (words range) 0)) (range_read number range order high) ∙ added_is

-- ---- all lines

-- the first byte that may follow
abbrev low_of : Option ℕ → ℕ
low_of None = 0
low_of (Some last) = last + 1

lies_above : (last : Option ℕ) (first : ℕ) → low_of last ≤ first → follows last first ≡ true
lies_above None first low = refl
lies_above (Some last) first low = grind (arith, nat_tests, low)

abbrev IsWord : MemoryRange → Type 0
IsWord range = range.last < 2 ^ 64

pub map_reads : (reader : MapReader) (number : ℕ) (end : Place) (ranges : List MemoryRange) → AreAscending (low_of reader.last) ranges → AllByRecursion IsWord ranges
    → length reader.ranges.items + length ranges ≤ 512 → map_from reader number (lines_of (map_text ranges)) end ≡ Ok (record { items = reader.ranges.items ++ ranges })
map_reads reader number end [] are small few = ap (λ xs. Ok (record { items = xs })) (sym (append-nil reader.ranges.items))
map_reads reader number end (range ∷ ranges) are small few =
    let next : MapReader = record { ranges = record { items = reader.ranges.items ++ range ∷ [] }; last = Some range.last } in
    let size = length-append reader.ranges.items (range ∷ []) in
    ap (λ ls. map_from reader number ls end) (lines_of-line (range_line range) (map_text ranges) (line_plain range))
    ∙ ap (λ s. and_then s (λ r. map_from r (number + 1) (lines_of (map_text ranges)) end)) (line_read reader number range (lies_above reader.last range.first are.0) are.1 small.0 (omega (arith, few)))
    ∙ map_reads next (number + 1) end ranges are.2 small.1 (omega (arith, few, size))
    ∙ ap (λ xs. Ok (record { items = xs })) (append_assoc reader.ranges.items (range ∷ []) ranges)

pub written_reads_back : WrittenReadsBack
written_reads_back ranges are small few = map_reads reads_nothing 1 (end_of (map_text ranges)) ranges are small (omega (arith, few))
