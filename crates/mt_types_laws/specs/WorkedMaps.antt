-- Lists of runs of worked examples.
use Rattle.std.specs.Prelude.{ℕ, List, [], ◌∷◌}
use Rattle.mt_kinds.specs.declared.mem_type.MemType.{MemType}
use Rattle.mt_kinds.specs.declared.mem_type.MemType.TheVariants.{UC, WB, WP}
use Rattle.mt_regs.specs.declared.page_type.PageType.TheVariants.{Kind}
use Rattle.mt_regs.specs.RegisterFile.{RegisterFile, blank_file}
use Rattle.mt_types.specs.declared.run.Run.{Run}

-- so many pages from a page on, of a type
abbrev pub run : ℕ → ℕ → MemType → Run
run first count kind = record { first = first; count = count; kind = Kind kind }

-- WB, WP and UC
abbrev pub three : List Run
three = run 0 0x80 WB ∷ run 0x80 0x20 WP ∷ run 0xa0 0x60 UC ∷ []

-- 2 ^ 24 pages, all of them UC, as the ranges are off
abbrev pub off : RegisterFile
off = blank_file 36 0x400
