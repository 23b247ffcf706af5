-- Lines of Linux on MTRRs and the PAT. Source: Linux 6.1: arch/x86/kernel/cpu/mtrr/generic.c, `print_mtrr_state`; arch/x86/kernel/cpu/mtrr/if.c, `mtrr_seq_show`; arch/x86/mm/pat/memtype.c,
-- `__init_cache_modes`. Without a source: the lines of other versions and of the cleanup, as docs/IMPORT.md says.
--     linux_said number line      what a line says
use Rattle.std.specs.Prelude.{ℕ, ◌+◌, ◌-◌, ◌*◌, ◌==◌, ◌&&◌, ◌||◌, not, nat_lt, bit_and, is_some, codes, Bool, false, List, [], ◌∷◌, length, take, drop, if◌then◌else◌, Option, Some, None, Result, Ok, Err}
use Rattle.mt_text.specs.Text.{words_of}
use Rattle.mt_text.specs.Words.{text_of, place_of}
use Rattle.mt_text.specs.Number.{hex_number, decimal_number}
use Rattle.mt_text.specs.declared.fault.NumberFault.{NumberFault}
use Rattle.mt_text.specs.declared.place.Place.{Place}
use Rattle.mt_import.specs.declared.reading.LineSays.{LineSays}
use Rattle.mt_import.specs.declared.reading.LineSays.TheVariants.{Nothing, Shows}
use Rattle.mt_import.specs.declared.shape.Shown.{Shown}
use Rattle.mt_import.specs.Pieces.{before, behind, is_text, number_in, prefixed_number, shown_bits, shows_one, value_at}
use Rattle.mt_import.specs.Readings.{one_shown, two_shown}
use Rattle.mt_import.specs.LineWords.{head_end, words_behind}
use Rattle.mt_import.specs.Kernel.{base_value, kernel_said, type_named}

-- ---- `x86/PAT: Configuration [0-7]: WB  WC  UC- UC  WB  WP  UC- WT`

-- the code of a PAT entry: Intel SDM, volume 3A, chapter Memory Cache Control, section IA32_PAT MSR
abbrev pub entry_named : List ℕ → Option ℕ
entry_named word =
    if is_text (codes "UC") word then Some 0
    else if is_text (codes "WC") word then Some 1
    else if is_text (codes "WT") word then Some 4
    else if is_text (codes "WP") word then Some 5
    else if is_text (codes "WB") word then Some 6
    else if is_text (codes "UC-") word then Some 7
    else None

-- the eight words from this one on
abbrev pub entries_from : ℕ → List (ℕ × List ℕ) → List (Option ℕ)
entries_from at words =
    entry_named (text_of words at) ∷ entry_named (text_of words (at + 1)) ∷ entry_named (text_of words (at + 2)) ∷ entry_named (text_of words (at + 3))
    ∷ entry_named (text_of words (at + 4)) ∷ entry_named (text_of words (at + 5)) ∷ entry_named (text_of words (at + 6)) ∷ entry_named (text_of words (at + 7)) ∷ []

abbrev pub value_with : Option ℕ → Option ℕ → Option ℕ
value_with None high = None
value_with (Some low) None = None
value_with (Some low) (Some high) = Some (low + 256 * high)

-- the value of bytes, the lowest first, where each is known
abbrev pub bytes_value : List (Option ℕ) → Option ℕ
bytes_value [] = Some 0
bytes_value (byte ∷ bytes) = value_with byte (bytes_value bytes)

abbrev pub is_pat_name : List ℕ → Bool
is_pat_name word = is_text (codes "x86/PAT:") word || is_text (codes "x86:") word || is_text (codes "PAT") word

abbrev pub is_configuration : List ℕ → Bool
is_configuration word = is_text (codes "Configuration") word || is_text (codes "configuration") word

-- behind `[0-7]:`, the word of this number
abbrev pub pat_from : ℕ → ℕ → List (ℕ × List ℕ) → LineSays
pat_from at number words =
    if length words == at + 9 && is_text (codes "[0-7]:") (text_of words at) && is_configuration (text_of words (at - 1))
    then shows_one (Some 0) (Some 0x277) (bytes_value (entries_from (at + 1) words)) (place_of number words (at + 1))
    else Nothing

-- `x86/PAT: Configuration [0-7]: ..`, `x86: PAT configuration [0-7]: ..` or `PAT configuration [0-7]: ..`
abbrev pub pat_word : List (ℕ × List ℕ) → ℕ
pat_word words = if is_text (codes "[0-7]:") (text_of words 2) then 2 else 3

abbrev pub pat_said : ℕ → List (ℕ × List ℕ) → LineSays
pat_said number words = pat_from (pat_word words) number words

-- ---- `x86 PAT enabled: cpu 0, old 0x7040600070406, new 0x7010600070106`

-- The registers of a kernel's log are processor 0's, so that the lines of other processors are passed over.
abbrev pub is_pat_change : List (ℕ × List ℕ) → Bool
is_pat_change words =
    length words == 9 && is_text (codes "PAT") (text_of words 1) && is_text (codes "enabled:") (text_of words 2) && is_text (codes "cpu") (text_of words 3)
    && is_text (codes "0,") (text_of words 4) && is_text (codes "old") (text_of words 5) && is_text (codes "new") (text_of words 7)

abbrev pub pat_changed : ℕ → List (ℕ × List ℕ) → LineSays
pat_changed number words =
    if is_pat_change words then shows_one (Some 0) (Some 0x277) (prefixed_number (text_of words 8)) (place_of number words 8) else Nothing

-- ---- sizes: `2048MB`

abbrev pub unit_named : List ℕ → Option ℕ
unit_named letters = if is_text (codes "KB") letters then Some 0x400 else if is_text (codes "MB") letters then Some 0x100000 else if is_text (codes "GB") letters then Some 0x40000000 else None

abbrev pub scaled : Result ℕ NumberFault → Option ℕ → Option ℕ
scaled (Err fault) unit = None
scaled (Ok count) None = None
scaled (Ok count) (Some unit) = Some (count * unit)

abbrev pub amount_in : List ℕ → Option ℕ
amount_in word = if nat_lt (length word) 3 then None else scaled (decimal_number (take (length word - 2) word) 0xffffffff) (unit_named (drop (length word - 2) word))

abbrev pub amount_by : Option (List ℕ) → Option ℕ
amount_by None = None
amount_by (Some word) = amount_in word

-- a power of 2, of whole pages
abbrev pub is_size : ℕ → Bool
is_size size = nat_lt 0xfff size && nat_lt size 0x10000000000000 && bit_and size (size - 1) == 0

-- The bits of PhysMask that a size shows: V is set, and the lowest bit of the mask is that of the size. A broken mask has another size.
abbrev pub size_shown : ℕ → Place → Option ℕ → Option Shown
size_shown pair place None = None
size_shown pair place (Some size) = if is_size size then shown_bits (0x201 + 2 * pair) (2 * size - 1) (size + 0x800) place else None

abbrev pub pair_shown : Option ℕ → Place → Option ℕ → Place → Option ℕ → LineSays
pair_shown None base_place base size_place size = Nothing
pair_shown (Some pair) base_place base size_place size = Shows (Some 0) (two_shown (value_at (0x200 + 2 * pair) base_place base) (size_shown pair size_place size))

-- ---- `reg00: base=0x080000000 ( 2048MB), size= 2048MB, count=1: uncachable`

-- two digits of a pair's number, and this text behind them
abbrev pub pair_before : List ℕ → List ℕ → Option ℕ
pair_before end word =
    if nat_lt (length word) 2 then None
    else if is_text end (drop 2 word) then number_in (decimal_number (take 2 word) 31)
    else None

abbrev pub pair_in : List ℕ → Option (List ℕ) → Option ℕ
pair_in end None = None
pair_in end (Some digits) = pair_before end digits

-- a pair's number behind one text, and before another
abbrev pub pair_numbered : List ℕ → List ℕ → List ℕ → Option ℕ
pair_numbered head end word = pair_in end (behind head word)

abbrev pub numbered : Option (List ℕ) → Option ℕ
numbered None = None
numbered (Some digits) = number_in (hex_number digits)

-- a hexadecimal number behind a text
abbrev pub number_behind : List ℕ → List ℕ → Option ℕ
number_behind head word = numbered (behind head word)

-- the word that begins with `size=`, and the word that has its amount
abbrev pub size_word : List (ℕ × List ℕ) → ℕ
size_word words = if is_text (codes "(") (text_of words 2) then 4 else 3

abbrev pub amount_word : List (ℕ × List ℕ) → ℕ
amount_word words = if is_text (codes "size=") (text_of words (size_word words)) then size_word words + 1 else size_word words

abbrev pub amount_text : List (ℕ × List ℕ) → Option (List ℕ)
amount_text words =
    if is_text (codes "size=") (text_of words (size_word words)) then Some (text_of words (size_word words + 1)) else behind (codes "size=") (text_of words (size_word words))

abbrev pub cut_before : List ℕ → Option (List ℕ) → Option (List ℕ)
cut_before end None = None
cut_before end (Some word) = before end word

abbrev pub is_count : List ℕ → Bool
is_count word = is_some (behind (codes "count=") word)

abbrev pub type_in : Option (List ℕ) → Option ℕ
type_in None = None
type_in (Some word) = type_named word

-- with this amount and type
abbrev pub region_by : Option ℕ → Option ℕ → ℕ → List (ℕ × List ℕ) → LineSays
region_by size code number words =
    pair_shown (pair_numbered (codes "reg") (codes ":") (text_of words 0)) (place_of number words 1) (base_value (number_behind (codes "base=") (text_of words 1)) code)
    (place_of number words (amount_word words)) size

-- `.. size= 2048MB, count=1: uncachable`, or in Linux's own document `.. size= 128MB: write-back, count=1`
abbrev pub region_said : ℕ → List (ℕ × List ℕ) → LineSays
region_said number words =
    if not (length words == amount_word words + 3) then Nothing
    else if is_count (text_of words (amount_word words + 1))
    then region_by (amount_by (cut_before (codes ",") (amount_text words))) (type_named (text_of words (amount_word words + 2))) number words
    else if is_count (text_of words (amount_word words + 2))
    then region_by (amount_by (cut_before (codes ":") (amount_text words))) (type_in (before (codes ",") (text_of words (amount_word words + 1)))) number words
    else Nothing

-- ---- `reg 0, base: 2GB, range: 256MB, type UC`, of the cleanup

-- `Other` is more than one type.
abbrev pub cleanup_type : List ℕ → Option ℕ
cleanup_type word = if is_text (codes "UC") word then Some 0 else if is_text (codes "WP") word then Some 5 else if is_text (codes "WB") word then Some 6 else type_named word

abbrev pub is_cleanup : List (ℕ × List ℕ) → Bool
is_cleanup words =
    length words == 8 && is_text (codes "base:") (text_of words 2) && is_text (codes "range:") (text_of words 4) && is_text (codes "type") (text_of words 6)

abbrev pub pair_by : Option (List ℕ) → Option ℕ
pair_by None = None
pair_by (Some digits) = number_in (decimal_number digits 31)

abbrev pub cleanup_said : ℕ → List (ℕ × List ℕ) → LineSays
cleanup_said number words =
    if is_cleanup words
    then pair_shown (pair_by (before (codes ",") (text_of words 1))) (place_of number words 3)
    (base_value (amount_by (before (codes ",") (text_of words 3))) (cleanup_type (text_of words 7))) (place_of number words 5) (amount_by (before (codes ",") (text_of words 5)))
    else Nothing

-- ---- `MTRR map: 5 entries (3 fixed + 2 variable; max 23), built from 10 variable MTRRs`

abbrev pub is_map : List (ℕ × List ℕ) → Bool
is_map words =
    length words == 16 && is_text (codes "map:") (text_of words 1) && is_text (codes "fixed") (text_of words 5) && is_text (codes "max") (text_of words 9)
    && is_text (codes "built") (text_of words 11) && is_text (codes "variable") (text_of words 14) && is_text (codes "MTRRs") (text_of words 15)

-- VCNT by the map's numbers: `most` is `fixed` and twice VCNT, and `count` is VCNT. AMD's TOM2, if it is in use, adds 1 to both.
abbrev pub map_pairs : ℕ → ℕ → ℕ → Option ℕ
map_pairs fixed most count =
    if most == fixed + 2 * count then Some count
    else if nat_lt 0 count && most + 1 == fixed + 2 * count then Some (count - 1)
    else None

abbrev pub map_count : Option ℕ → Option ℕ → Option ℕ → Option ℕ
map_count None most count = None
map_count (Some fixed) None count = None
map_count (Some fixed) (Some most) None = None
map_count (Some fixed) (Some most) (Some count) = map_pairs fixed most count

abbrev pub entries_in : Option (List ℕ) → Option ℕ
entries_in None = None
entries_in (Some digits) = number_in (decimal_number digits 999)

-- VCNT is bits 7:0 of the capability register: Intel SDM, volume 3A, section IA32_MTRRCAP MSR
abbrev pub count_said : Option ℕ → Place → LineSays
count_said None place = Nothing
count_said (Some count) place = Shows (Some 0) (one_shown (shown_bits 0xfe 0xff count place))

abbrev pub map_said : ℕ → List (ℕ × List ℕ) → LineSays
map_said number words =
    count_said (map_count (entries_in (behind (codes "(") (text_of words 4))) (entries_in (before (codes "),") (text_of words 10))) (number_in (decimal_number (text_of words 13) 255)))
    (place_of number words 13)

-- ---- all lines

abbrev pub linux_words_said : ℕ → List (ℕ × List ℕ) → LineSays
linux_words_said number words =
    if is_text (codes "x86") (text_of words 0) then pat_changed number words
    else if is_pat_name (text_of words 0) then pat_said number words
    else if is_text (codes "reg") (text_of words 0) then cleanup_said number words
    else if is_some (behind (codes "reg") (text_of words 0)) then region_said number words
    else if is_map words then map_said number words
    else kernel_said false number words

abbrev pub linux_said : ℕ → List ℕ → LineSays
linux_said number line = linux_words_said number (words_behind (head_end (words_of line)) line)
