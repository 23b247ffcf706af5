-- Ranges and files of worked examples.
use Rattle.std.specs.Prelude.{ℕ, List, [], ◌∷◌}
use Rattle.mt_kinds.specs.declared.mem_type.MemType.{MemType}
use Rattle.mt_kinds.specs.declared.mem_type.MemType.TheVariants.{UC, WB}
use Rattle.mt_regs.specs.declared.page_type.PageType.TheVariants.{Kind}
use Rattle.mt_regs.specs.declared.registers.Register.TheVariants.{DefaultType, PhysBase}
use Rattle.mt_regs.specs.RegisterFile.{RegisterFile, blank_file}
use Rattle.mt_regs.specs.Registers.{with_value}
use Rattle.mt_types.specs.declared.run.Run.{Run}
use Rattle.mt_tidy.specs.declared.range.Range.{Range}
use Rattle.mt_tidy.specs.Tidied.{with_ranges}

-- the 2 ^ log pages from first on
abbrev pub range : ℕ → ℕ → MemType → Range
range first log kind = record { first = first; log = log; kind = kind }

-- a hole of one page in eight
abbrev pub holed : List Range
holed = range 0 3 WB ∷ range 7 0 UC ∷ []

-- ranges are on, and there is none
abbrev pub uncached : RegisterFile
uncached = with_value (blank_file 36 8) DefaultType 0x800

-- the base of the first pair, which isn't valid, has a reserved bit
abbrev pub with_reserved_bit : RegisterFile
with_reserved_bit = with_value uncached (PhysBase 0) 0x100

-- all 2 ^ 24 pages of one type
abbrev pub all_of : MemType → List Run
all_of kind = record { first = 0; count = 0x1000000; kind = Kind kind } ∷ []

-- by default each page has UC, and one pair gives all of them WB
abbrev pub written_back : RegisterFile
written_back = with_ranges uncached (range 0 24 WB ∷ [])
