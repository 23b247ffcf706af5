-- Lines of coreboot's console. Source: coreboot 25.09 and 4.15: src/cpu/x86/mtrr/debug.c, `_display_mtrrs` and what it calls; src/cpu/x86/mtrr/mtrr.c, `commit_fixed_mtrrs`, `prep_var_mtrr`,
-- `_x86_setup_mtrrs`; src/console/printk.c, `line_start`.
--     coreboot_said number line      what a line of this number says
use Rattle.std.specs.Prelude.{ℕ, ◌+◌, ◌*◌, ◌%◌, ◌==◌, ◌&&◌, nat_lt, codes, Bool, List, if◌then◌else◌, Option, Some, None, Result, Ok, Err}
use Rattle.mt_kinds.specs.Sizes.{page_bytes}
use Rattle.mt_text.specs.Text.{without_ending, words_of}
use Rattle.mt_text.specs.Words.{place_of, text_of}
use Rattle.mt_text.specs.Number.{decimal_number}
use Rattle.mt_text.specs.declared.fault.NumberFault.{NumberFault}
use Rattle.mt_text.specs.declared.place.Place.{Place}
use Rattle.mt_import.specs.declared.reading.LineSays.{LineSays}
use Rattle.mt_import.specs.declared.reading.LineSays.TheVariants.{Nothing, Begins, Shows}
use Rattle.mt_import.specs.Pieces.{before, behind, is_text, prefixed_number, prefixed_register, shown_as, shown_bits, shows_one, shows_width, whole_number}
use Rattle.mt_import.specs.Readings.{one_shown, two_shown}
use Rattle.mt_import.specs.Kernel.{default_shown}

-- ---- what `_display_mtrrs` prints: `0xVALUE: NAME`, and more behind it

abbrev pub number_in : Option (List ℕ) → Option ℕ
number_in (Some word) = prefixed_number word
number_in None = None

-- `0xVALUE:`
abbrev pub colon_number : List ℕ → Option ℕ
colon_number word = number_in (before (codes ":") word)

abbrev pub fixed_16k_named : List ℕ → Option ℕ
fixed_16k_named word =
    if is_text (codes "IA32_MTRR_FIX64K_00000") word then Some 0x250
    else if is_text (codes "IA32_MTRR_FIX16K_80000") word then Some 0x258
    else if is_text (codes "IA32_MTRR_FIX16K_A0000") word then Some 0x259
    else None

abbrev pub fixed_4k_by : List ℕ → Option ℕ
fixed_4k_by digits =
    if is_text (codes "C0000") digits then Some 0x268
    else if is_text (codes "C8000") digits then Some 0x269
    else if is_text (codes "D0000") digits then Some 0x26a
    else if is_text (codes "D8000") digits then Some 0x26b
    else if is_text (codes "E0000") digits then Some 0x26c
    else if is_text (codes "E8000") digits then Some 0x26d
    else if is_text (codes "F0000") digits then Some 0x26e
    else if is_text (codes "F8000") digits then Some 0x26f
    else None

-- `IA32_MTRR_FIX4K_C0000`, cut at its last `_`, or one of the other fixed-range registers
abbrev pub fixed_by : Option (List ℕ) → List ℕ → Option ℕ
fixed_by (Some digits) word = fixed_4k_by digits
fixed_by None word = fixed_16k_named word

abbrev pub of_pair : ℕ → Result ℕ NumberFault → Option ℕ
of_pair first (Ok pair) = Some (first + 2 * pair)
of_pair first (Err fault) = None

-- `PHYBASE0`, or `PHYBASE0:`, cut behind its letters
abbrev pub pair_digits : List ℕ → Result ℕ NumberFault
pair_digits digits = decimal_number (without_ending 58 digits) 31

abbrev pub mask_by : Option (List ℕ) → List ℕ → Option ℕ
mask_by (Some digits) word = of_pair 0x201 (pair_digits digits)
mask_by None word = fixed_by (behind (codes "IA32_MTRR_FIX4K_") word) word

abbrev pub pair_by : Option (List ℕ) → List ℕ → Option ℕ
pair_by (Some digits) word = of_pair 0x200 (pair_digits digits)
pair_by None word = mask_by (behind (codes "PHYMASK") word) word

abbrev pub register_named : List ℕ → Option ℕ
register_named word =
    if is_text (codes "IA32_MTRRCAP:") word then Some 0xfe
    else if is_text (codes "IA32_MTRR_DEF_TYPE:") word then Some 0x2ff
    else pair_by (behind (codes "PHYBASE") word) word

abbrev pub displayed_from : ℕ → ℕ → List (ℕ × List ℕ) → LineSays
displayed_from first number words = shows_one None (register_named (text_of words (first + 1))) (colon_number (text_of words first)) (place_of number words first)

-- ---- what is printed when registers are set

-- `Fixed MSR 0x250 0xVALUE`, of sixteen digits
abbrev pub is_fixed : ℕ → List (ℕ × List ℕ) → Bool
is_fixed first words = is_text (codes "Fixed") (text_of words first) && is_text (codes "MSR") (text_of words (first + 1))

abbrev pub fixed_from : Option ℕ → ℕ → ℕ → List (ℕ × List ℕ) → LineSays
fixed_from processor first number words = shows_one processor (prefixed_register (text_of words (first + 2))) (whole_number 18 (text_of words (first + 3))) (place_of number words (first + 3))

-- `0 base 0xBASE mask 0xMASK type 6`
abbrev pub is_pair : ℕ → List (ℕ × List ℕ) → Bool
is_pair first words = is_text (codes "base") (text_of words (first + 1)) && is_text (codes "mask") (text_of words (first + 3)) && is_text (codes "type") (text_of words (first + 5))

-- an address of a page, below 2 ^ 52
abbrev pub is_page : ℕ → Bool
is_page address = nat_lt address 0x10000000000000 && address % page_bytes == 0

-- PhysBase, with the type in its low byte
abbrev pub base_value : Option ℕ → Result ℕ NumberFault → Option ℕ
base_value None kind = None
base_value (Some base) (Err fault) = None
base_value (Some base) (Ok kind) = if is_page base then Some (base + kind) else None

-- PhysMask, with V set
abbrev pub mask_value : Option ℕ → Option ℕ
mask_value None = None
mask_value (Some mask) = if is_page mask then Some (mask + 0x800) else None

-- both registers of a pair, where both values are known
abbrev pub shows_pair : Result ℕ NumberFault → Place → Option ℕ → Place → Option ℕ → LineSays
shows_pair (Err fault) base_place base mask_place mask = Nothing
shows_pair (Ok pair) base_place None mask_place mask = Nothing
shows_pair (Ok pair) base_place (Some base) mask_place None = Nothing
shows_pair (Ok pair) base_place (Some base) mask_place (Some mask) =
    Shows None (two_shown (shown_as (0x200 + 2 * pair) base base_place) (shown_as (0x201 + 2 * pair) mask mask_place))

abbrev pub pair_from : ℕ → ℕ → List (ℕ × List ℕ) → LineSays
pair_from first number words =
    shows_pair (decimal_number (text_of words first) 31)
    (place_of number words (first + 2)) (base_value (prefixed_number (text_of words (first + 2))) (decimal_number (text_of words (first + 6)) 255))
    (place_of number words (first + 4)) (mask_value (prefixed_number (text_of words (first + 4))))

-- `CPU physical address size: 39 bits`
abbrev pub is_size : ℕ → List (ℕ × List ℕ) → Bool
is_size first words =
    is_text (codes "CPU") (text_of words first) && is_text (codes "physical") (text_of words (first + 1)) && is_text (codes "address") (text_of words (first + 2))
    && is_text (codes "size:") (text_of words (first + 3)) && is_text (codes "bits") (text_of words (first + 5))

abbrev pub size_from : ℕ → ℕ → List (ℕ × List ℕ) → LineSays
size_from first number words = if is_size first words then shows_width (decimal_number (text_of words (first + 4)) 255) (place_of number words (first + 4)) else Nothing

-- `WB selected as default type.`: a table begins
abbrev pub is_default : ℕ → List (ℕ × List ℕ) → Bool
is_default first words =
    is_text (codes "selected") (text_of words (first + 1)) && is_text (codes "as") (text_of words (first + 2)) && is_text (codes "default") (text_of words (first + 3))
    && is_text (codes "type.") (text_of words (first + 4))

abbrev pub default_named : List ℕ → Option ℕ
default_named word = if is_text (codes "WB") word then Some 6 else if is_text (codes "UC") word then Some 0 else None

abbrev pub default_from : ℕ → ℕ → List (ℕ × List ℕ) → LineSays
default_from first number words = Begins (one_shown (default_shown (default_named (text_of words first)) (place_of number words first)))

-- `Fixed MTRRs   : Enabled` and `Variable MTRRs: Enabled`: FE and E
abbrev pub flag_said : ℕ → List ℕ → Place → LineSays
flag_said bit word place =
    if is_text (codes "Enabled") word then Shows None (one_shown (shown_bits 0x2ff bit bit place))
    else if is_text (codes "Disabled") word then Shows None (one_shown (shown_bits 0x2ff bit 0 place))
    else Nothing

abbrev pub is_fixed_flag : ℕ → List (ℕ × List ℕ) → Bool
is_fixed_flag first words = is_text (codes "Fixed") (text_of words first) && is_text (codes "MTRRs") (text_of words (first + 1)) && is_text (codes ":") (text_of words (first + 2))

abbrev pub is_variable_flag : ℕ → List (ℕ × List ℕ) → Bool
is_variable_flag first words = is_text (codes "Variable") (text_of words first) && is_text (codes "MTRRs:") (text_of words (first + 1))

abbrev pub other_from : ℕ → ℕ → List (ℕ × List ℕ) → LineSays
other_from first number words =
    if is_fixed_flag first words then flag_said 0x400 (text_of words (first + 3)) (place_of number words (first + 3))
    else if is_variable_flag first words then flag_said 0x800 (text_of words (first + 2)) (place_of number words (first + 2))
    else displayed_from first number words

-- behind `MTRR:`
abbrev pub set_from : ℕ → ℕ → List (ℕ × List ℕ) → LineSays
set_from first number words =
    if is_fixed first words then fixed_from None first number words
    else if is_pair first words then pair_from first number words
    else if is_default first words then default_from first number words
    else Nothing

-- ---- a line

-- The processor is the one of this APIC ID.
abbrev pub fixed_of : Option ℕ → ℕ → ℕ → List (ℕ × List ℕ) → LineSays
fixed_of None first number words = Nothing
fixed_of (Some id) first number words = if nat_lt id 0x10000 then fixed_from (Some id) first number words else Nothing

-- `0x0: MTRR: Fixed MSR ..`
abbrev pub is_fixed_of : ℕ → List (ℕ × List ℕ) → Bool
is_fixed_of first words = is_text (codes "MTRR:") (text_of words (first + 1)) && is_fixed (first + 2) words

-- `0x0 setup mtrr for CPU physical address size: 39 bits`
abbrev pub is_setup : ℕ → List (ℕ × List ℕ) → Bool
is_setup first words = is_text (codes "setup") (text_of words (first + 1)) && is_text (codes "mtrr") (text_of words (first + 2)) && is_text (codes "for") (text_of words (first + 3))

-- behind `apic_id`
abbrev pub said_of_id : ℕ → ℕ → List (ℕ × List ℕ) → LineSays
said_of_id first number words =
    if is_fixed_of first words then fixed_of (colon_number (text_of words first)) (first + 2) number words
    else if is_setup first words then size_from (first + 4) number words
    else Nothing

abbrev pub said_from : ℕ → ℕ → List (ℕ × List ℕ) → LineSays
said_from first number words =
    if is_text (codes "apic_id") (text_of words first) then said_of_id (first + 1) number words
    else if is_text (codes "MTRR:") (text_of words first) then set_from (first + 1) number words
    else if is_text (codes "CPU") (text_of words first) then size_from first number words
    else other_from first number words

-- The level of these lines may stand in front, as one word.
abbrev pub level_words : List (ℕ × List ℕ) → ℕ
level_words words = if is_text (codes "[DEBUG]") (text_of words 0) then 1 else 0

abbrev pub coreboot_said : ℕ → List ℕ → LineSays
coreboot_said number line = said_from (level_words (words_of line)) number (words_of line)
