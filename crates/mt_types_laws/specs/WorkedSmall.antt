-- Sixteen pages, of which the first seven have WB and the others UC, the default type (own).
use Rattle.std.specs.Prelude.{List, [], ◌∷◌}
use Rattle.mt_kinds.specs.declared.mem_type.MemType.TheVariants.{UC, WB}
use Rattle.mt_regs.specs.declared.page_type.PageType.TheVariants.{Kind}
use Rattle.mt_regs.specs.declared.registers.Register.TheVariants.{DefaultType}
use Rattle.mt_regs.specs.RegisterFile.{RegisterFile, blank_file}
use Rattle.mt_regs.specs.Registers.{with_value}
use Rattle.mt_types.specs.declared.run.Run.{Run}
use Rattle.mt_tidy.specs.Tidied.{with_ranges}
use Rattle.mt_types_laws.specs.WorkedRanges.{range}

-- three ranges, of which none shares a page with another
abbrev pub apart : RegisterFile
apart = with_ranges (with_value (blank_file 16 0x403) DefaultType 0x800) (range 0 2 WB ∷ range 4 1 WB ∷ range 6 0 WB ∷ [])

-- the types of its pages
abbrev pub seven : List Run
seven = record { first = 0; count = 7; kind = Kind WB } ∷ record { first = 7; count = 9; kind = Kind UC } ∷ []

-- all else is WT: four pages of WB and four of UC side by side
abbrev pub beside : RegisterFile
beside = with_ranges (with_value (blank_file 16 0x403) DefaultType 0x804) (range 0 2 WB ∷ range 4 2 UC ∷ [])
