-- Ranges of memory (own).
--     is_kind a b      both are one kind
--     kind_number kind      of the kinds in one page the one with the greatest number counts, unless that is RAM
--     kind_at ranges byte      the kind of a byte, if a range has it
--     AreAscending low ranges      ranges from this byte on, in ascending order, of which no two share a byte
use Rattle.std.specs.Prelude.{ℕ, ◌≤◌, ◌+◌, ◌==◌, ◌&&◌, nat_le, Bool, List, [], ◌∷◌, if◌then◌else◌, Option, Some, None, ⊤}
use Rattle.mt_memory_kinds.specs.declared.kind.MemoryKind.{MemoryKind}
use Rattle.mt_memory_kinds.specs.declared.kind.MemoryKind.TheVariants.{Ram, Reserved, Device, Acpi, Nvs, Unusable}
use Rattle.mt_memory_kinds.specs.declared.kind.MemoryRange.{MemoryRange}

abbrev pub kind_number : MemoryKind → ℕ
kind_number Ram = 0
kind_number Device = 1
kind_number Acpi = 2
kind_number Nvs = 3
kind_number Reserved = 4
kind_number Unusable = 5

abbrev pub is_kind : MemoryKind → MemoryKind → Bool
is_kind a b = kind_number a == kind_number b

abbrev pub has : MemoryRange → ℕ → Bool
has range byte = nat_le range.first byte && nat_le byte range.last

abbrev pub kind_at : List MemoryRange → ℕ → Option MemoryKind
kind_at [] byte = None
kind_at (range ∷ ranges) byte = if has range byte then Some range.kind else kind_at ranges byte

abbrev pub AreAscending : ℕ → List MemoryRange → Type 0
AreAscending low [] = ⊤
AreAscending low (range ∷ ranges) = (low ≤ range.first) × (range.first ≤ range.last) × AreAscending (range.last + 1) ranges
