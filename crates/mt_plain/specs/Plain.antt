-- A register file as C's plain words, and the numbers by which calls answer (own).
use Rattle.std.specs.Prelude.{ℕ, Bool, not, ◌&&◌, ◌||◌, ◌==◌, nat_lt, nat_le, map, take, drop, Option, None, Some, if◌then◌else◌}
use Rattle.std.specs.List.{list_all}
use Rattle.mt_kinds.specs.Bits.{is_bit_set}
use Rattle.mt_kinds.specs.EffectiveType.{effective_type}
use Rattle.mt_kinds.specs.Pat.{pat_entry}
use Rattle.mt_kinds.specs.Types.{byte_of_type}
use Rattle.mt_plain.specs.declared.plain.PlainPair.{PlainPair}
use Rattle.mt_plain.specs.declared.plain.PlainRegisters.{PlainRegisters}
use Rattle.mt_plain.specs.declared.plain.PlainFault.{PlainFault}
use Rattle.mt_regs.specs.declared.fault.Fault.{Fault}
use Rattle.mt_regs.specs.declared.fault.Reason.{Reason}
use Rattle.mt_regs.specs.declared.fault.Reason.TheVariants.{ReservedBit, UnsupportedType, BrokenMask, UndefinedOverlap}
use Rattle.mt_regs.specs.declared.page_type.PageType.{PageType}
use Rattle.mt_regs.specs.declared.page_type.PageType.TheVariants.{Kind, Undefined}
use Rattle.mt_regs.specs.PageTypes.{page_type}
use Rattle.mt_regs.specs.RegisterFile.{RegisterFile, low_byte, page_count}

abbrev pub as_pair : PlainPair → ℕ × ℕ
as_pair p = (p.base, p.mask)

abbrev pub is_zero_pair : PlainPair → Bool
is_zero_pair p = (p.base == 0) && (p.mask == 0)

-- the file that the words tell: of the pairs those that VCNT counts
abbrev pub file_in : PlainRegisters → RegisterFile
file_in r = record {
  width = r.width;
  capabilities = r.capabilities;
  pairs = map as_pair (take (low_byte r.capabilities) r.pairs);
  fixed = r.fixed;
  pat = r.pat;
  default_type = r.default_type;
}

-- the pairs beyond VCNT are zeros
abbrev pub has_no_other_pair : PlainRegisters → Bool
has_no_other_pair r = list_all is_zero_pair (drop (low_byte r.capabilities) r.pairs)

-- the fixed-range registers are zeros where the processor hasn't them
abbrev pub has_no_other_fixed : PlainRegisters → Bool
has_no_other_fixed r = is_bit_set r.capabilities 8 || list_all (λ v. v == 0) r.fixed

-- the words are a register file's
abbrev pub is_file : PlainRegisters → Bool
is_file r =
    nat_le 32 r.width && nat_le r.width 52 && nat_le (low_byte r.capabilities) 32 && has_no_other_pair r && has_no_other_fixed r

-- the numbers of the answers: 0 done, 1 a fault, 2 no register file, 3 no such page, 4 no defined type, 5 no such entry of the PAT
abbrev pub reason_number : Reason → ℕ
reason_number ReservedBit = 1
reason_number UnsupportedType = 2
reason_number BrokenMask = 3
reason_number UndefinedOverlap = 4

abbrev pub fault_status : Option Fault → ℕ
fault_status None = 0
fault_status (Some fault) = 1

abbrev pub fault_words : Option Fault → PlainFault → PlainFault
fault_words None old = old
fault_words (Some fault) old = record { number = fault.msr; reason = reason_number fault.reason }

abbrev pub type_status : PageType → ℕ
type_status (Kind t) = 0
type_status Undefined = 4

abbrev pub type_number : PageType → ℕ → ℕ
type_number (Kind t) old = byte_of_type t
type_number Undefined old = old

-- the answer to a question for a page's type
abbrev pub page_status : PlainRegisters → ℕ → ℕ
page_status r page =
    if not (is_file r) then 2
    else if not (nat_lt page (page_count (file_in r))) then 3
    else type_status (page_type (file_in r) page)

-- the number that is left, where another stood before
abbrev pub page_number : PlainRegisters → ℕ → ℕ → ℕ
page_number r page old =
    if not (is_file r) then old
    else if not (nat_lt page (page_count (file_in r))) then old
    else type_number (page_type (file_in r) page) old

-- the type in effect where the page's mapping chooses an entry of the PAT
abbrev pub effective_kind : ℕ → ℕ → PageType → PageType
effective_kind pat index Undefined = Undefined
effective_kind pat index (Kind t) = Kind (effective_type t (pat_entry pat index))

abbrev pub effective_status : PlainRegisters → ℕ → ℕ → ℕ
effective_status r page index =
    if not (is_file r) then 2
    else if not (nat_lt page (page_count (file_in r))) then 3
    else if not (nat_lt index 8) then 5
    else type_status (effective_kind r.pat index (page_type (file_in r) page))

abbrev pub effective_number : PlainRegisters → ℕ → ℕ → ℕ → ℕ
effective_number r page index old =
    if not (is_file r) then old
    else if not (nat_lt page (page_count (file_in r))) then old
    else if not (nat_lt index 8) then old
    else type_number (effective_kind r.pat index (page_type (file_in r) page)) old
