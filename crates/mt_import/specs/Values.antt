-- The registers of a dump, by what lines have shown of them, what words supply, and what words allow to be assumed (own).
--     value_by supplied slots known k number      the value of a register of processor k
--     width_by supplied slots width      the address width, where lines show this one
use Rattle.std.specs.Prelude.{ℕ, zero, suc, ◌+◌, ◌-◌, ◌*◌, ◌/◌, ◌%◌, ◌^◌, ◌==◌, ◌&&◌, ◌||◌, nat_lt, not, bit_or, Bool, true, false, List, [], ◌∷◌, if◌then◌else◌, Option, Some, None, unwrap_or}
use Rattle.std.specs.Int.{leading_zeros, w64}
use Rattle.mt_kinds.specs.Bits.{is_bit_set}
use Rattle.mt_regs.specs.RegisterFile.{low_byte}
use Rattle.mt_regs.specs.Registers.{fixed_numbers}
use Rattle.mt_import.specs.declared.format.Format.{Format}
use Rattle.mt_import.specs.declared.format.Format.TheVariants.{Rdmsr, X86info, Inteltool, Coreboot, Edk2, Linux, Xen, Chipsec, Windbg, Plain}
use Rattle.mt_import.specs.declared.shape.Known.{Known}
use Rattle.mt_import.specs.declared.shape.Slot.{Slot}
use Rattle.mt_import.specs.declared.supplied.Assumed.{Assumed}
use Rattle.mt_import.specs.Slot.{is_disabled, is_whole, whole_value}
use Rattle.mt_import.specs.Supplied.{Supplied, supplied_value}

-- what stands first, or else the other
abbrev pub or_supplied : Option ℕ → Option ℕ → Option ℕ
or_supplied (Some value) other = Some value
or_supplied None other = other

-- ---- pairs

abbrev pub is_pair_number : ℕ → Bool
is_pair_number number = nat_lt 0x1ff number && nat_lt number 0x240

abbrev pub base_of : ℕ → ℕ
base_of number = number / 2 * 2

abbrev pub mask_of : ℕ → ℕ
mask_of number = number / 2 * 2 + 1

-- Both registers of a pair whose V is shown clear are 0.
abbrev pub disabled_value : (ℕ → Slot) → ℕ → Option ℕ
disabled_value slots number = if is_pair_number number && is_disabled (slots (mask_of number)) then Some 0 else None

-- ---- shown or supplied

abbrev pub firm_value : Supplied → (ℕ → Slot) → ℕ → Option ℕ
firm_value supplied slots number = or_supplied (whole_value (slots number)) (or_supplied (supplied_value supplied number) (disabled_value slots number))

-- ---- assumed

-- the value of power-up: Intel SDM, volume 3A, section IA32_PAT MSR
abbrev pub power_up_pat : ℕ
power_up_pat = 0x0007040600070406

-- the value that Xen sets: WB, WT, UC-, UC, WC, WP, UC and UC
abbrev pub xen_pat : ℕ
xen_pat = 0x0000050100070406

-- the value that Linux sets: WB, WC, UC-, UC, WB, WP, UC- and WT
abbrev pub linux_pat : ℕ
linux_pat = 0x0407050600070106

-- assume=pat: the value that Linux or Xen sets in its log, or else that of power-up
abbrev pub assumed_pat : Option Format → ℕ
assumed_pat None = power_up_pat
assumed_pat (Some Rdmsr) = power_up_pat
assumed_pat (Some X86info) = power_up_pat
assumed_pat (Some Inteltool) = power_up_pat
assumed_pat (Some Coreboot) = power_up_pat
assumed_pat (Some Edk2) = power_up_pat
assumed_pat (Some Linux) = linux_pat
assumed_pat (Some Xen) = xen_pat
assumed_pat (Some Chipsec) = power_up_pat
assumed_pat (Some Windbg) = power_up_pat
assumed_pat (Some Plain) = power_up_pat

-- how many of the first pairs a log shows: V of the last is shown
abbrev pub shown_pairs : (ℕ → Slot) → ℕ → ℕ
shown_pairs slots zero = 0
shown_pairs slots (suc n) = if is_bit_set (slots (0x201 + 2 * n)).bits 11 then suc n else shown_pairs slots n

-- VCNT that is shown, or else the pairs of the table
abbrev pub pair_count : (ℕ → Slot) → ℕ
pair_count slots = if (slots 0xfe).bits % 256 == 255 then low_byte (slots 0xfe).value else shown_pairs slots 32

-- Lines show FIX of the capability register, or VCNT, but not all of it.
abbrev pub shows_part : Slot → Bool
shows_part capabilities = (is_bit_set capabilities.value 8 || capabilities.bits % 256 == 255) && not (is_whole capabilities)

-- assume=capabilities: behind a kernel's line on fixed ranges or on its map, the capability register with VCNT, FIX and WC
abbrev pub assumed_capabilities : (ℕ → Slot) → Option ℕ
assumed_capabilities slots = if shows_part (slots 0xfe) then Some (pair_count slots + 0x500) else None

-- assume=masks: a mask with ones from the size that a line shows up to the width. Such a line shows the bits up to that of the size.
abbrev pub size_in : Slot → ℕ
size_in slot = slot.value - 0x800

abbrev pub mask_of_size : Slot → ℕ → Option ℕ
mask_of_size slot width =
    if nat_lt 0xfff (size_in slot) && nat_lt (size_in slot) (2 ^ width) && slot.bits == 2 * size_in slot - 1 then Some (2 ^ width - size_in slot + 0x800) else None

abbrev pub assumed_mask : Slot → Option ℕ → Option ℕ
assumed_mask slot None = None
assumed_mask slot (Some width) = mask_of_size slot width

-- no line shows a bit of the register's pair
abbrev pub is_unshown : (ℕ → Slot) → ℕ → Bool
is_unshown slots number = (slots (base_of number)).bits == 0 && (slots (mask_of number)).bits == 0

-- lines show a bit of one of the first pairs
abbrev pub shows_pairs : (ℕ → Slot) → ℕ → Bool
shows_pairs slots zero = false
shows_pairs slots (suc n) = if is_unshown slots (0x200 + 2 * n) then shows_pairs slots n else true

-- the lines of a table show all of a register
abbrev pub is_of_table : Slot → Bool
is_of_table slot = is_whole slot && nat_lt 0 slot.table

-- The log has this processor's pairs: one of them, or a table with its default type.
abbrev pub has_pairs : (ℕ → Slot) → Bool
has_pairs slots = is_of_table (slots 0x2ff) || shows_pairs slots 32

-- assume=pairs: 0 for a pair that no line shows, of a processor whose pairs the log has
abbrev pub assumed_zero : (ℕ → Slot) → ℕ → Option ℕ
assumed_zero slots number = if is_unshown slots number && has_pairs slots then Some 0 else None

-- No other register has a number between those of the fixed-range registers.
abbrev pub is_fixed_number : ℕ → Bool
is_fixed_number number = nat_lt 0x24f number && nat_lt number 0x270

-- what SeaBIOS sets: WB below A0000H, UC up to C0000H, and WP above
abbrev pub firmware_value : ℕ → ℕ
firmware_value number = if number == 0x259 then 0 else if nat_lt number 0x260 then 0x0606060606060606 else 0x0505050505050505

-- lines show a bit of one of these registers
abbrev pub shows_one_of : (ℕ → Slot) → List ℕ → Bool
shows_one_of slots [] = false
shows_one_of slots (number ∷ numbers) = if (slots number).bits == 0 then shows_one_of slots numbers else true

-- assume=fixed: the values that firmware of PCs sets, where no line shows a fixed-range register
abbrev pub assumed_fixed : (ℕ → Slot) → ℕ → Option ℕ
assumed_fixed slots number = if shows_one_of slots fixed_numbers then None else Some (firmware_value number)

-- lines show the type of a PhysBase, its low byte, as UC
abbrev pub shows_uncached : Slot → Bool
shows_uncached base = base.bits % 256 == 255 && low_byte base.value == 0

-- lines show FIX of the capability register as clear
abbrev pub shows_fix_clear : Slot → Bool
shows_fix_clear capabilities = is_bit_set capabilities.bits 8 && not (is_bit_set capabilities.value 8)

-- without FIX, bit 8 of the capability register
abbrev pub lacks_fix : Option ℕ → Bool
lacks_fix None = false
lacks_fix (Some capabilities) = not (is_bit_set capabilities 8)

-- with one pair more, if it is used
abbrev pub uncached_with : Bool → Bool → Option Bool → Option Bool
uncached_with true uncached before = Some (uncached && unwrap_or before true)
uncached_with false uncached before = before

-- whether the pairs are all UC whose V lines show as set, of the first ones, if there is one
abbrev pub uncached_pairs : (ℕ → Slot) → ℕ → Option Bool
uncached_pairs slots zero = None
uncached_pairs slots (suc n) = uncached_with (is_bit_set (slots (0x201 + 2 * n)).value 11) (shows_uncached (slots (0x200 + 2 * n))) (uncached_pairs slots n)

-- WB where pairs make UC what isn't RAM, as under SeaBIOS, and UC where they make RAM WB
abbrev pub likely_type : (ℕ → Slot) → ℕ
likely_type slots = if unwrap_or (uncached_pairs slots 32) false then 6 else 0

-- E, and FE unless lines or a word have FIX as clear
abbrev pub likely_flags : Slot → Option ℕ → ℕ
likely_flags capabilities given = if shows_fix_clear capabilities || lacks_fix given then 0x800 else 0xc00

-- assume=fixed: what firmware of PCs sets, where no line shows a bit of IA32_MTRR_DEF_TYPE
abbrev pub assumed_default : (ℕ → Slot) → Option ℕ → Option ℕ
assumed_default slots given = if (slots 0x2ff).bits == 0 then Some (likely_flags (slots 0xfe) given + likely_type slots) else None

abbrev pub only_if : Bool → Option ℕ → Option ℕ
only_if true value = value
only_if false value = None

abbrev pub assumed_pair : Assumed → (ℕ → Slot) → Option ℕ → ℕ → Option ℕ
assumed_pair assumed slots width number = or_supplied (only_if assumed.masks (assumed_mask (slots number) width)) (only_if assumed.pairs (assumed_zero slots number))

abbrev pub assumed_value : Assumed → (ℕ → Slot) → Known → ℕ → Option ℕ
assumed_value assumed slots known number =
    if number == 0x277 then only_if assumed.pat (Some (assumed_pat known.format))
    else if number == 0xfe then only_if assumed.capabilities (assumed_capabilities slots)
    else if is_pair_number number then assumed_pair assumed slots known.width number
    else if is_fixed_number number then only_if assumed.fixed (assumed_fixed slots number)
    else if number == 0x2ff then only_if assumed.fixed (assumed_default slots known.given)
    else None

-- Sizes and kernels' tables are of processor 0, so that masks, fixed ranges and the capability register are assumed of it alone.
abbrev pub assumed_of : ℕ → Assumed → Assumed
assumed_of zero assumed = assumed
assumed_of (suc k) assumed = record { pat = assumed.pat; pairs = assumed.pairs; masks = false; fixed = false; width = assumed.width; capabilities = false }

abbrev pub value_by : Supplied → (ℕ → ℕ → Slot) → Known → ℕ → ℕ → Option ℕ
value_by supplied slots known k number = or_supplied (firm_value supplied (slots k) number) (assumed_value (assumed_of k supplied.assumed) (slots k) known number)

-- ---- the width

-- the bits of the first masks that are shown whole, or else supplied
abbrev pub masks_in : Supplied → (ℕ → Slot) → ℕ → ℕ
masks_in supplied slots zero = 0
masks_in supplied slots (suc n) = bit_or (masks_in supplied slots n) (unwrap_or (or_supplied (whole_value (slots (0x201 + 2 * n))) (supplied_value supplied (0x201 + 2 * n))) 0)

-- a width by how many of 64 bits are left above it
abbrev pub width_by_zeros : ℕ → Option ℕ
width_by_zeros zeros = if nat_lt 11 zeros && nat_lt zeros 33 then Some (64 - zeros) else None

-- assume=width: the least width that has all bits of the masks, if it is one of 32 to 52
abbrev pub widest : ℕ → Option ℕ
widest masks = width_by_zeros (leading_zeros w64 masks)

abbrev pub assumed_width : Supplied → (ℕ → Slot) → Option ℕ
assumed_width supplied slots = only_if supplied.assumed.width (widest (masks_in supplied slots 32))

abbrev pub firm_width : Supplied → Option ℕ → Option ℕ
firm_width supplied width = or_supplied width supplied.width

abbrev pub width_by : Supplied → (ℕ → ℕ → Slot) → Option ℕ → Option ℕ
width_by supplied slots width = or_supplied (firm_width supplied width) (assumed_width supplied (slots 0))
