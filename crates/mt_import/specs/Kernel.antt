-- Lines on MTRRs that the kernels of Linux and Xen print alike: print_mtrr_state, print_fixed_last and mtrr_attrib_to_str
-- (Linux 6.1: arch/x86/kernel/cpu/mtrr/generic.c and if.c; Xen 4.17: xen/arch/x86/cpu/mtrr/generic.c).
--     kernel_said alone number words      what a line of these words says, where `alone` tells whether the line on fixed ranges shows FE also without E
use Rattle.std.specs.Prelude.{ℕ, ◌+◌, ◌-◌, ◌*◌, ◌/◌, ◌%◌, ◌==◌, ◌&&◌, not, nat_le, nat_lt, codes, Bool, true, false, List, [], ◌∷◌, length, take, drop, if◌then◌else◌, Option, Some, None}
use Rattle.mt_kinds.specs.Sizes.{page_bytes}
use Rattle.mt_text.specs.Words.{text_of, place_of}
use Rattle.mt_text.specs.Number.{hex_number, decimal_number}
use Rattle.mt_text.specs.declared.place.Place.{Place}
use Rattle.mt_import.specs.declared.reading.LineSays.{LineSays}
use Rattle.mt_import.specs.declared.reading.LineSays.TheVariants.{Nothing, Shows, Begins, FixedRanges, VariableRanges}
use Rattle.mt_import.specs.declared.shape.FixedRun.{FixedRun}
use Rattle.mt_import.specs.declared.shape.Shown.{Shown}
use Rattle.mt_import.specs.Pieces.{is_text, number_in, shown_bits, value_at}
use Rattle.mt_import.specs.Readings.{one_shown, two_shown}

-- the code of a memory type: Intel SDM, volume 3A, chapter Memory Cache Control, section Memory Type Range Registers (MTRRs); `?` has none
abbrev pub type_named : List ℕ → Option ℕ
type_named word =
    if is_text (codes "uncachable") word then Some 0
    else if is_text (codes "write-combining") word then Some 1
    else if is_text (codes "write-through") word then Some 4
    else if is_text (codes "write-protect") word then Some 5
    else if is_text (codes "write-back") word then Some 6
    else None

-- ---- `MTRR default type: T`, `MTRR fixed ranges enabled:`, `MTRR variable ranges enabled:`

abbrev pub enabled_by : List ℕ → Option Bool
enabled_by word = if is_text (codes "enabled:") word then Some true else if is_text (codes "disabled:") word then Some false else None

abbrev pub fixed_said : Bool → Place → Option Bool → LineSays
fixed_said alone place None = Nothing
fixed_said alone place (Some enabled) = FixedRanges enabled alone place

abbrev pub variable_said : Place → Option Bool → LineSays
variable_said place None = Nothing
variable_said place (Some enabled) = VariableRanges enabled place

-- Intel SDM, volume 3A, section IA32_MTRR_DEF_TYPE MSR: the type in bits 7:0, FE in bit 10, E in bit 11; the other bits are reserved, and 0.
abbrev pub default_shown : Option ℕ → Place → Option Shown
default_shown None place = None
default_shown (Some code) place = shown_bits 0x2ff 0xfffffffffffff3ff code place

abbrev pub head_said : Bool → ℕ → List (ℕ × List ℕ) → LineSays
head_said alone number words =
    if is_text (codes "default") (text_of words 1) && is_text (codes "type:") (text_of words 2) then Begins (one_shown (default_shown (type_named (text_of words 3)) (place_of number words 3)))
    else if not (is_text (codes "ranges") (text_of words 2)) then Nothing
    else if is_text (codes "fixed") (text_of words 1) then fixed_said alone (place_of number words 3) (enabled_by (text_of words 3))
    else if is_text (codes "variable") (text_of words 1) then variable_said (place_of number words 3) (enabled_by (text_of words 3))
    else Nothing

-- ---- `FIRST-LAST T`, five digits each

abbrev pub range_from : ℕ → ℕ → ℕ → Option ℕ
range_from first offset size = if offset % size == 0 then Some (first + offset / size) else None

-- The number of the fixed range that begins at an address, and 88 for 1 MiB: the same chapter, section Fixed Range MTRRs.
abbrev pub range_at : ℕ → Option ℕ
range_at address =
    if nat_lt address 0x80000 then range_from 0 address 0x10000
    else if nat_lt address 0xc0000 then range_from 8 (address - 0x80000) 0x4000
    else if nat_lt 0x100000 address then None
    else range_from 24 (address - 0xc0000) 0x1000

-- 1 for a range of a run, else 0
abbrev pub in_run : ℕ → ℕ → ℕ → ℕ
in_run first end i = if nat_le first i && nat_lt i end then 1 else 0

-- a byte of 1 for each of the eight ranges from this one on that the run has
abbrev pub run_bytes : ℕ → ℕ → ℕ → ℕ
run_bytes first end at =
    in_run first end at + 0x100 * in_run first end (at + 1) + 0x10000 * in_run first end (at + 2) + 0x1000000 * in_run first end (at + 3)
    + 0x100000000 * in_run first end (at + 4) + 0x10000000000 * in_run first end (at + 5) + 0x1000000000000 * in_run first end (at + 6)
    + 0x100000000000000 * in_run first end (at + 7)

abbrev pub fixed_by : ℕ → ℕ → ℕ → Place → Option Shown
fixed_by number bytes code place = if bytes == 0 then None else shown_bits number (255 * bytes) (code * bytes) place

-- a run from one fixed range up to another, which it doesn't have
abbrev pub fixed_run : ℕ → ℕ → ℕ → Place → FixedRun
fixed_run first end code place = record { first = first; end = end; code = code; place = place }

-- the fixed-range register whose ranges begin with this one
abbrev pub fixed_shown : FixedRun → ℕ → ℕ → Option Shown
fixed_shown run at number = fixed_by number (run_bytes run.first run.end at) run.code run.place

-- all that a run shows
abbrev pub all_fixed_shown : FixedRun → List (Option Shown)
all_fixed_shown run =
    fixed_shown run 0 0x250 ∷ fixed_shown run 8 0x258 ∷ fixed_shown run 16 0x259 ∷ fixed_shown run 24 0x268 ∷ fixed_shown run 32 0x269 ∷ fixed_shown run 40 0x26a
    ∷ fixed_shown run 48 0x26b ∷ fixed_shown run 56 0x26c ∷ fixed_shown run 64 0x26d ∷ fixed_shown run 72 0x26e ∷ fixed_shown run 80 0x26f ∷ []

abbrev pub types_said : Option ℕ → Option ℕ → Option ℕ → Place → LineSays
types_said None end code place = Nothing
types_said (Some first) None code place = Nothing
types_said (Some first) (Some end) None place = Nothing
types_said (Some first) (Some end) (Some code) place =
    if nat_lt first end then Shows (Some 0) (all_fixed_shown (fixed_run first end code place)) else Nothing

abbrev pub addresses_said : Option ℕ → Option ℕ → Option ℕ → Place → LineSays
addresses_said None last code place = Nothing
addresses_said (Some first) None code place = Nothing
addresses_said (Some first) (Some last) code place =
    if nat_lt last 0x100000 then types_said (range_at first) (range_at (last + 1)) code place else Nothing

abbrev pub run_said : ℕ → List (ℕ × List ℕ) → LineSays
run_said number words =
    if length (text_of words 0) == 11 && is_text (codes "-") (take 1 (drop 5 (text_of words 0)))
    then addresses_said (number_in (hex_number (take 5 (text_of words 0)))) (number_in (hex_number (drop 6 (text_of words 0)))) (type_named (text_of words 1)) (place_of number words 1)
    else Nothing

-- ---- `N base BASE mask MASK T`

-- PhysBase by its page's address and its type: the same chapter, section Variable Range MTRRs; bits 11:8 are reserved, and 0.
abbrev pub base_value : Option ℕ → Option ℕ → Option ℕ
base_value None code = None
base_value (Some base) None = None
base_value (Some base) (Some code) = if base % page_bytes == 0 then Some (base + code) else None

-- PhysMask by the mask of pages, where V is set; bits 10:0 are reserved, and 0.
abbrev pub mask_value : Option ℕ → Option ℕ
mask_value None = None
mask_value (Some mask) = if mask % page_bytes == 0 then Some (mask + 0x800) else None

abbrev pub pair_said : Option ℕ → ℕ → List (ℕ × List ℕ) → LineSays
pair_said None number words = Nothing
pair_said (Some pair) number words = Shows (Some 0) (two_shown
    (value_at (0x200 + 2 * pair) (place_of number words 2) (base_value (number_in (hex_number (text_of words 2))) (type_named (text_of words 5))))
    (value_at (0x201 + 2 * pair) (place_of number words 4) (mask_value (number_in (hex_number (text_of words 4))))))

-- ---- `N disabled`: V is clear

abbrev pub disabled_said : Option ℕ → Place → LineSays
disabled_said None place = Nothing
disabled_said (Some pair) place = Shows (Some 0) (one_shown (shown_bits (0x201 + 2 * pair) 0x800 0 place))

-- ---- all lines

abbrev pub kernel_said : Bool → ℕ → List (ℕ × List ℕ) → LineSays
kernel_said alone number words =
    if length words == 4 && is_text (codes "MTRR") (text_of words 0) then head_said alone number words
    else if length words == 2 && is_text (codes "disabled") (text_of words 1) then disabled_said (number_in (decimal_number (text_of words 0) 31)) (place_of number words 1)
    else if length words == 2 then run_said number words
    else if length words == 6 && is_text (codes "base") (text_of words 1) && is_text (codes "mask") (text_of words 3) then pair_said (number_in (decimal_number (text_of words 0) 31)) number words
    else Nothing
