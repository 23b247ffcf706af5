-- The first fault of a register file. Which bits are reserved, which types there are and which overlaps are undefined: Intel SDM,
-- volume 3A, chapter Memory Cache Control, sections MTRR Feature Identification, IA32_MTRR_DEF_TYPE MSR, Fixed Range MTRRs,
-- Variable Range MTRRs, IA32_PAT MSR and MTRR Precedences. That a mask with a gap is a fault, that FE is reserved without FIX, and
-- the order in which a file's faults are looked for are this project's choices (own).
use Rattle.std.specs.Prelude.{◌≡◌, ◌≢◌, ℕ, zero, suc, ◌-◌, ◌/◌, ◌%◌, ◌^◌, ◌<◌, ◌==◌, Bool, true, false, not, ◌&&◌, ◌||◌, List, [], ◌∷◌, if◌then◌else◌, MatchOption}
use Rattle.std.specs.Prelude.{Option, None, Some, is_some}
use Rattle.std.specs.Option.{option_or}
use Rattle.mt_kinds.specs.Bits.{bits, byte_at, is_bit_set}
use Rattle.mt_kinds.specs.Types.{pat_type_of_byte, type_of_byte}
use Rattle.mt_ranges.specs.Match.{is_run, matches_pair, page_field}
use Rattle.mt_regs.specs.declared.fault.Fault.{Fault}
use Rattle.mt_regs.specs.declared.fault.Reason.{Reason}
use Rattle.mt_regs.specs.declared.fault.Reason.TheVariants.{ReservedBit, UnsupportedType, BrokenMask, UndefinedOverlap}
use Rattle.mt_regs.specs.declared.page_type.PageType.TheVariants.{Undefined}
use Rattle.mt_regs.specs.declared.registers.Register.{Register}
use Rattle.mt_regs.specs.declared.registers.Register.TheVariants.{PhysBase, PhysMask, FixedRange, Pat, DefaultType}
use Rattle.mt_regs.specs.RegisterFile.{RegisterFile, has_fixed, has_write_combining, low_byte, page_count, pair_at}
use Rattle.mt_regs.specs.Registers.{number_of, value_of, writable}
use Rattle.mt_regs.specs.PageTypes.{page_type}

-- one of the lowest count bytes of a value passes the test
abbrev pub any_byte : (ℕ → Bool) → ℕ → ℕ → Bool
any_byte test value zero = false
any_byte test value (suc i) = any_byte test value i || test (byte_at value i)

-- a byte that is a memory type, and WC only where the processor has write combining
abbrev pub is_supported : Bool → ℕ → Bool
is_supported has_combining byte = is_some (type_of_byte byte) && (not (byte == 1) || has_combining)

abbrev pub is_pat_byte : ℕ → Bool
is_pat_byte byte = is_some (pat_type_of_byte byte)

abbrev pub has_reserved_bit : RegisterFile → Register → ℕ → Bool
has_reserved_bit f (PhysBase n) v = not (bits v 8 4 == 0) || not (v / 2 ^ f.width == 0)
has_reserved_bit f (PhysMask n) v = not (v % 2 ^ 11 == 0) || not (v / 2 ^ f.width == 0)
has_reserved_bit f (FixedRange place) v = false
has_reserved_bit f Pat v = any_byte (λ byte. not (byte / 8 == 0)) v 8
has_reserved_bit f DefaultType v = not (bits v 8 2 == 0) || not (v / 2 ^ 12 == 0) || (is_bit_set v 10 && not (has_fixed f))

abbrev pub has_unsupported_type : RegisterFile → Register → ℕ → Bool
has_unsupported_type f (PhysBase n) v = not (is_supported (has_write_combining f) (low_byte v))
has_unsupported_type f (PhysMask n) v = false
has_unsupported_type f (FixedRange place) v = any_byte (λ byte. not (is_supported (has_write_combining f) byte)) v 8
has_unsupported_type f Pat v = any_byte (λ byte. not (is_pat_byte byte)) v 8
has_unsupported_type f DefaultType v = not (is_supported (has_write_combining f) (low_byte v))

-- a valid mask with a gap
abbrev pub has_broken_mask : RegisterFile → Register → ℕ → Bool
has_broken_mask f (PhysMask n) v = is_bit_set v 11 && not (is_run (f.width - 12) (page_field f.width v))
has_broken_mask f other v = false

abbrev pub reason_of : RegisterFile → Register → Option Reason
reason_of f r =
    if has_reserved_bit f r (value_of f r) then Some ReservedBit
    else if has_unsupported_type f r (value_of f r) then Some UnsupportedType
    else if has_broken_mask f r (value_of f r) then Some BrokenMask
    else None

abbrev pub fault_at : Register → Option Reason → Option Fault
fault_at r None = None
fault_at r (Some why) = Some (record { msr = number_of r; reason = why })

abbrev pub first_of : RegisterFile → List Register → Option Fault
first_of f [] = None
first_of f (r ∷ rs) = option_or (fault_at r (reason_of f r)) (first_of f rs)

-- the first writable register with a reserved bit, an unsupported type or a broken mask
abbrev pub register_fault : RegisterFile → Option Fault
register_fault f = first_of f (writable f)

-- each page of the physical address space has a defined type
abbrev pub AreDefined : RegisterFile → Type 0
AreDefined f = (page : ℕ) → page < page_count f → page_type f page ≢ Undefined

-- no register has a fault of its own, and the types of all pages are defined
abbrev pub IsAccepted : RegisterFile → Type 0
IsAccepted f = MatchOption (register_fault f) (AreDefined f) (λ fault. None ≡ Some fault)

-- pair n matches a page of no defined type
abbrev pub MatchesUndefined : RegisterFile → ℕ → Type 0
MatchesUndefined f n =
    (page : ℕ) × (page < page_count f) × (page_type f page ≡ Undefined) × (matches_pair f.width (pair_at f.pairs n) page ≡ true)

-- the register of an undefined overlap is the base of the least pair that matches an undefined page
abbrev pub IsOverlap : RegisterFile → Option ℕ → Type 0
IsOverlap f None = AreDefined f
IsOverlap f (Some number) =
    (n : ℕ) × (number ≡ number_of (PhysBase n)) × MatchesUndefined f n × ((k : ℕ) → k < n → MatchesUndefined f k → ⊥)

-- what is answered where no register has a fault
abbrev pub IsOverlapFault : RegisterFile → Option Fault → Type 0
IsOverlapFault f None = IsOverlap f None
IsOverlapFault f (Some fault) = (fault.reason ≡ UndefinedOverlap) × IsOverlap f (Some fault.msr)

-- the first fault of the file, or none, exactly where the file is accepted
abbrev pub IsFirstFault : RegisterFile → Option Fault → Type 0
IsFirstFault f answer = MatchOption (register_fault f) (IsOverlapFault f answer) (λ fault. answer ≡ Some fault)
