-- A memory map beside the types of pages (own).
--     AreInOrder ranges                  a list of ranges of a map
--     AreMisfits file ranges misfits     all longest runs of pages of RAM that aren't WB, of devices that aren't UC, and reserved ones that are WC
use Rattle.std.specs.Prelude.{ℕ, ◌+◌, nat_lt, Bool, false, not, ◌&&◌, List, Option, None, Some, if◌then◌else◌}
use Rattle.std.specs.List.{find}
use Rattle.std.specs.Option.{option_map}
use Rattle.mt_kinds.specs.declared.mem_type.MemType.TheVariants.{UC, WB, WC}
use Rattle.mt_regs.specs.declared.page_type.PageType.{PageType}
use Rattle.mt_regs.specs.declared.page_type.PageType.TheVariants.{Kind}
use Rattle.mt_regs.specs.RegisterFile.{RegisterFile, page_count}
use Rattle.mt_regs.specs.PageTypes.{page_type, same_page_type}
use Rattle.mt_memory_kinds.specs.declared.kind.MemoryKind.{MemoryKind}
use Rattle.mt_memory_kinds.specs.declared.kind.MemoryKind.TheVariants.{Ram, Reserved, Device, Acpi, Nvs, Unusable}
use Rattle.mt_memory_kinds.specs.declared.kind.MemoryRange.{MemoryRange}
use Rattle.mt_memory_kinds.specs.Ranges.{AreAscending}
use Rattle.mt_explain.specs.declared.memory.Misfit.{Misfit}
use Rattle.mt_explain.specs.declared.span.Span.{Span}
use Rattle.mt_explain.specs.Spans.{AreSpans}

abbrev pub AreInOrder : List MemoryRange → Type 0
AreInOrder ranges = AreAscending 0 ranges

-- the page behind the last one
abbrev pub next_of : Option ℕ → ℕ
next_of None = 0
next_of (Some last) = last + 1

abbrev pub is_in : ℕ → MemoryRange → Bool
is_in page r = not (nat_lt page r.first) && not (nat_lt r.last page)

-- the kind of a page's memory, if a range has the page
abbrev pub memory_at : List MemoryRange → ℕ → Option MemoryKind
memory_at ranges page = option_map (λ r. r.kind) (find (is_in page) ranges)

-- Memory of the kind shouldn't have the type. Reserved pages may be the firmware's RAM, which is WB.
abbrev pub is_misfit : MemoryKind → PageType → Bool
is_misfit Ram t = not (same_page_type t (Kind WB))
is_misfit Reserved t = same_page_type t (Kind WC)
is_misfit Device t = not (same_page_type t (Kind UC))
is_misfit Acpi t = false
is_misfit Nvs t = false
is_misfit Unusable t = false

-- a page's memory, if it is known, and its type, if the two don't fit
abbrev pub misfit_of : Option MemoryKind → PageType → Option Misfit
misfit_of None t = None
misfit_of (Some m) t = if is_misfit m t then Some (record { memory = m; kind = t }) else None

abbrev pub misfit_at : RegisterFile → List MemoryRange → ℕ → Option Misfit
misfit_at f ranges page = misfit_of (memory_at ranges page) (page_type f page)

abbrev pub AreMisfits : RegisterFile → List MemoryRange → List (Span Misfit) → Type 0
AreMisfits f ranges misfits = AreSpans (misfit_at f ranges) 0 (page_count f) misfits
