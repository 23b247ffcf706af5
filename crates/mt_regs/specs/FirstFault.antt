-- The first fault of a register file, as a function: what `IsFirstFault` says of one answer alone (own).
use Rattle.std.specs.Prelude.{ℕ, Bool, true, false, ◌&&◌, length, Option}
use Rattle.std.specs.Option.{option_map, option_or}
use Rattle.std.specs.List.{find, list_any, range_with_len}
use Rattle.mt_ranges.specs.Match.{matches_pair}
use Rattle.mt_regs.specs.declared.fault.Fault.{Fault}
use Rattle.mt_regs.specs.declared.fault.Reason.TheVariants.{UndefinedOverlap}
use Rattle.mt_regs.specs.declared.page_type.PageType.{PageType}
use Rattle.mt_regs.specs.declared.page_type.PageType.TheVariants.{Kind, Undefined}
use Rattle.mt_regs.specs.declared.registers.Register.TheVariants.{PhysBase}
use Rattle.mt_regs.specs.RegisterFile.{RegisterFile, page_count, pair_at}
use Rattle.mt_regs.specs.Registers.{number_of}
use Rattle.mt_regs.specs.PageTypes.{page_type}
use Rattle.mt_regs.specs.Faults.{register_fault}

abbrev pub is_undefined : PageType → Bool
is_undefined Undefined = true
is_undefined (Kind t) = false

-- pair n matches a page of no defined type
abbrev pub matches_undefined : RegisterFile → ℕ → Bool
matches_undefined f n = list_any (λ page. is_undefined (page_type f page) && matches_pair f.width (pair_at f.pairs n) page) (range_with_len 0 (page_count f))

-- the least pair that does
abbrev pub overlap : RegisterFile → Option ℕ
overlap f = find (matches_undefined f) (range_with_len 0 (length f.pairs))

-- the first register with a fault of its own, or else the base of the least pair of an undefined overlap
abbrev pub first_fault : RegisterFile → Option Fault
first_fault f = option_or (register_fault f) (option_map (λ n. record { msr = number_of (PhysBase n); reason = UndefinedOverlap }) (overlap f))
