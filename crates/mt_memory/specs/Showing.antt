-- What a line of a log shows, whatever the other lines show (own).
--     shown_in format number line      what a line of this number shows
--     breaks_off format line      a range begins in a line and isn't whole
--     begins_map format low line shown      a map begins behind the lines before this one
--     told_in format number line      a line tells the format
--     format_told number line      the first format that a line tells
use Rattle.std.specs.Prelude.{ℕ, ◌+◌, ◌-◌, ◌==◌, ◌&&◌, ◌||◌, nat_le, nat_lt, not, Bool, true, false, List, [], ◌∷◌, drop, if◌then◌else◌, Option, Some, None, is_some}
use Rattle.mt_rows.specs.declared.row.Fields.{Fields}
use Rattle.mt_rows.specs.Scan.{Part, scanned}
use Rattle.mt_text.specs.Text.{without_return}
use Rattle.mt_text.specs.declared.place.Place.{Place}
use Rattle.mt_memory.specs.declared.coreboot.TheConstants.{COREBOOT}
use Rattle.mt_memory.specs.declared.e820.TheConstants.{E820}
use Rattle.mt_memory.specs.declared.efi.TheConstants.{EFI}
use Rattle.mt_memory.specs.declared.iomem.TheConstants.{IOMEM}
use Rattle.mt_memory.specs.declared.format.Format.{Format}
use Rattle.mt_memory.specs.declared.format.Format.TheVariants as format
use Rattle.mt_memory.specs.declared.format.MapFault.TheVariants.{Backward, Hidden, UnknownKind, Utf16}
use Rattle.mt_memory.specs.declared.format.Shown.{Shown}
use Rattle.mt_memory.specs.declared.format.Shown.TheVariants.{Nothing, Range, Fault}
use Rattle.mt_memory_kinds.specs.declared.kind.MemoryKind.{MemoryKind}
use Rattle.mt_memory.specs.declared.table.Ends.{Ends}
use Rattle.mt_memory.specs.declared.table.Ends.TheVariants.{Last, LastBeforeSize, LastBeforeTwo, LastOrHidden, Behind}
use Rattle.mt_memory.specs.declared.table.Front.{Front}
use Rattle.mt_memory.specs.declared.table.Front.TheVariants.{Start, Word}
use Rattle.mt_memory.specs.declared.table.Named.{Named}
use Rattle.mt_memory.specs.declared.table.Named.TheVariants.{AtFront, BehindFront, BehindRange}
use Rattle.mt_memory.specs.declared.table.Seen.{Seen}
use Rattle.mt_memory.specs.Finding.{Form, Name, Table, first_named, has_heading, next_word, stands, table_in}

-- ---- a range by its numbers

abbrev pub place_at : ℕ → ℕ → Place
place_at number before = record { line = number; column = before + 1 }

abbrev pub range_shown : ℕ → ℕ → MemoryKind → Place → Shown
range_shown first last kind place = Range (record { range = record { first = first; last = last; kind = kind }; place = place })

-- The second number is that of the last byte. A range without bytes shows nothing.
abbrev pub closed : ℕ → ℕ → MemoryKind → Place → Shown
closed first last kind place =
    if nat_le first last then range_shown first last kind place
    else if first - last == 1 then Nothing
    else Fault (Backward place)

-- It is that of the byte behind the last.
abbrev pub half_open : ℕ → ℕ → MemoryKind → Place → Shown
half_open first end kind place =
    if nat_lt first end then range_shown first (end - 1) kind place
    else if first == end then Nothing
    else Fault (Backward place)

abbrev pub bounded : Ends → ℕ → ℕ → MemoryKind → Place → Shown
bounded Last first second kind place = closed first second kind place
bounded LastBeforeSize first second kind place = closed first second kind place
bounded LastBeforeTwo first second kind place = closed first second kind place
bounded Behind first second kind place = half_open first second kind place
bounded LastOrHidden first second kind place = if second == 0 then Fault (Hidden place) else closed first second kind place

abbrev pub numbers_of : Ends → Fields → ℕ × ℕ
numbers_of Last fields = (fields.second_last.value, fields.last.value)
numbers_of LastBeforeSize fields = (fields.third_last.value, fields.second_last.value)
numbers_of LastBeforeTwo fields = (fields.fourth_last.value, fields.third_last.value)
numbers_of LastOrHidden fields = (fields.second_last.value, fields.last.value)
numbers_of Behind fields = (fields.second_last.value, fields.last.value)

abbrev pub named_range : Ends → Fields → Option MemoryKind → Place → Shown
named_range ends fields (Some kind) place = bounded ends (numbers_of ends fields).0 (numbers_of ends fields).1 kind place
named_range ends fields None place = Fault (UnknownKind place)

-- ---- forms

abbrev pub at_start : Option Fields → Option (ℕ × Fields)
at_start (Some fields) = Some (0, fields)
at_start None = None

-- how many bytes stand before the front of a form, and its numbers
abbrev pub front_at : Front → List Part → List ℕ → Option (ℕ × Fields)
front_at Word parts line = stands parts line
front_at Start parts line = at_start (scanned parts line)

-- Where the kind is named, by the numbers of the front and by those of the range, which stands behind so many bytes.
abbrev pub name_text : Named → List ℕ → Fields → ℕ × Fields → List ℕ
name_text AtFront rest front range = rest
name_text BehindFront rest front range = next_word (drop front.last.column rest)
name_text BehindRange rest front range = next_word (drop range.1.last.column (drop range.0 rest))

abbrev pub in_range : Form → List Name → List ℕ → ℕ × Fields → Option (ℕ × Fields) → Option Seen
in_range form names rest front (Some range) =
    Some (record { ends = form.3; fields = range.1; kind = first_named names (name_text form.4 rest front.1 range); before = front.0 + range.0 })
in_range form names rest front None = None

abbrev pub behind_front : Form → List Name → List ℕ → Option (ℕ × Fields) → Option Seen
behind_front form names line (Some front) = in_range form names (drop front.0 line) front (stands form.2 (drop front.0 line))
behind_front form names line None = None

abbrev pub seen_by_form : Form → List Name → List ℕ → Option Seen
seen_by_form form names line = behind_front form names line (front_at form.1 form.0 line)

abbrev pub seen_or : Option Seen → Option Seen → Option Seen
seen_or (Some seen) others = Some seen
seen_or None others = others

-- what the first form reads that reads a range
abbrev pub seen_by : List Form → List Name → List ℕ → Option Seen
seen_by [] names line = None
seen_by (form ∷ forms) names line = seen_or (seen_by_form form names line) (seen_by forms names line)

abbrev pub has_front : List Form → List ℕ → Bool
has_front [] line = false
has_front (form ∷ forms) line = is_some (front_at form.1 form.0 line) || has_front forms line

abbrev pub seen_shown : ℕ → Option Seen → Shown
seen_shown number (Some seen) = named_range seen.ends seen.fields seen.kind (place_at number seen.before)
seen_shown number None = Nothing

-- ---- formats

-- A byte-order mark of UTF-8 at a line's front is no part of it, nor is a CR at its end.
abbrev pub unmarked : List ℕ → List ℕ
unmarked (a ∷ b ∷ c ∷ rest) = if a == 239 && b == 187 && c == 191 then rest else a ∷ b ∷ c ∷ rest
unmarked line = line

abbrev pub bare : List ℕ → List ℕ
bare line = unmarked (without_return line)

-- the line begins as UTF-16 does
abbrev pub is_utf16 : List ℕ → Bool
is_utf16 (a ∷ b ∷ rest) = a == 255 && b == 254 || a == 254 && b == 255
is_utf16 line = false

abbrev pub shown_of : Table → ℕ → List ℕ → Shown
shown_of table number line = if is_utf16 line then Fault (Utf16 (place_at number 0)) else seen_shown number (seen_by table.forms table.names line)

-- Sources: Linux 6.1, arch/x86/kernel/e820.c, `e820__print_table` and `e820_print_type`; Xen 4.17, xen/arch/x86/e820.c, `print_e820_memory_map`.
-- Read without sources, by what is known: the forms of older versions, whose second number is behind the range.
unfoldable pub e820 : Table
e820 = table_in E820

-- Sources: Linux 6.1, arch/x86/platform/efi/efi.c, `efi_print_memmap`, and drivers/firmware/efi/efi.c, `efi_md_typeattr_format`; EDK2 2022.11, ShellPkg, MemMap.c and its strings.
-- Read without sources, by what is known: the longer names of older and the shorter ones of newer versions of Linux.
unfoldable pub efi : Table
efi = table_in EFI

-- Source: coreboot 4.15, src/lib/bootmem.c, `bootmem_dump_ranges` and `type_strings`. `SOFT RESERVED` is of newer versions.
unfoldable pub coreboot : Table
coreboot = table_in COREBOOT

-- Source: Linux 6.1, kernel/resource.c, `r_show`. Names: arch/x86/kernel/e820.c, `e820_type_to_string`.
unfoldable pub iomem : Table
iomem = table_in IOMEM

abbrev pub table_of : Format → Table
table_of format.E820 = e820
table_of format.Efi = efi
table_of format.Coreboot = coreboot
table_of format.Iomem = iomem

abbrev pub shown_in : Format → ℕ → List ℕ → Shown
shown_in f number line = shown_of (table_of f) number (bare line)

-- A front stands in the line, and no range behind it.
abbrev pub breaks_off : Format → List ℕ → Bool
breaks_off f line = has_front (table_of f).forms (bare line) && not (is_some (seen_by (table_of f).forms (table_of f).names (bare line)))

-- A range that doesn't begin above the one before it is of another map, if the source lists ranges in ascending order.
abbrev pub starts_over : Bool → ℕ → Shown → Bool
starts_over ascends low Nothing = false
starts_over ascends low (Range claim) = ascends && nat_le claim.range.first low
starts_over ascends low (Fault fault) = false

abbrev pub has_title : Format → List ℕ → Bool
has_title f line = has_heading (table_of f).headings (bare line)

-- A map begins behind the lines before this one, of which the last range has this first byte.
abbrev pub begins_map : Format → ℕ → List ℕ → Shown → Bool
begins_map f low line shown = has_title f line || starts_over (table_of f).ascends low shown

abbrev pub low_behind : ℕ → Shown → ℕ
low_behind low Nothing = low
low_behind low (Range claim) = claim.range.first
low_behind low (Fault fault) = low

-- ---- without a named format: that of the first line that tells one

abbrev pub is_shown : Shown → Bool
is_shown Nothing = false
is_shown (Range claim) = true
is_shown (Fault fault) = true

unfoldable pub told_in : Format → ℕ → List ℕ → Bool
told_in f number line = has_title f line || is_shown (shown_in f number line)

abbrev pub format_told : ℕ → List ℕ → Option Format
format_told number line =
    if told_in format.E820 number line then Some format.E820
    else if told_in format.Efi number line then Some format.Efi
    else if told_in format.Coreboot number line then Some format.Coreboot
    else if told_in format.Iomem number line then Some format.Iomem
    else None

abbrev pub chosen : Option Format → ℕ → List ℕ → Option Format
chosen (Some f) number line = Some f
chosen None number line = format_told number line
