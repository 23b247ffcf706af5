-- Runs as words of fixed widths (own).
use Rattle.std.specs.Prelude.{ℕ, List, map, Option, None, Some}
use Rattle.mt_kinds.specs.declared.mem_type.MemType.{MemType}
use Rattle.mt_kinds.specs.Types.{byte_of_type, type_of_byte}
use Rattle.mt_regs.specs.declared.page_type.PageType.{PageType}
use Rattle.mt_regs.specs.declared.page_type.PageType.TheVariants.{Kind, Undefined}
use Rattle.mt_types.specs.declared.run.Run.{Run}
use Rattle.mt_tidy.specs.declared.packed.PackedRun.{PackedRun}

-- the type's byte, or 255 where no type is defined
abbrev pub kind_byte : PageType → ℕ
kind_byte (Kind t) = byte_of_type t
kind_byte Undefined = 255

abbrev pub kind_or_none : Option MemType → PageType
kind_or_none None = Undefined
kind_or_none (Some t) = Kind t

-- each byte that is no type's stands for no defined type
abbrev pub kind_of_byte : ℕ → PageType
kind_of_byte byte = kind_or_none (type_of_byte byte)

abbrev pub run_of : PackedRun → Run
run_of p = record { first = p.first; count = p.count; kind = kind_of_byte p.kind }

abbrev pub runs_of : List PackedRun → List Run
runs_of packed = map run_of packed
