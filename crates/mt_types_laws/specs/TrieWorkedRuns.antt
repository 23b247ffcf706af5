-- Wishes of a few pages (own).
use Rattle.std.specs.Prelude.{List, [], ◌∷◌}
use Rattle.mt_kinds.specs.declared.mem_type.MemType.TheVariants.{UC, WB}
use Rattle.mt_regs.specs.declared.page_type.PageType.TheVariants.{Kind}
use Rattle.mt_types.specs.declared.run.Run.{Run}

-- pages 0 to 255 have UC, and pages 256 to 511 WB
abbrev pub two_runs : List Run
two_runs = record { first = 0; count = 256; kind = Kind UC } ∷ record { first = 256; count = 256; kind = Kind WB } ∷ []
