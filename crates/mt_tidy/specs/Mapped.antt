-- The type map of a file from a page on (own).
use Rattle.std.specs.Prelude.{◌≡◌, ℕ, max, if◌then◌else◌, List}
use Rattle.std.specs.List.{All}
use Rattle.mt_regs.specs.PageTypes.{page_type}
use Rattle.mt_regs.specs.RegisterFile.{RegisterFile, is_fixed_enabled, page_count}
use Rattle.mt_types.specs.declared.run.Run.{Run}
use Rattle.mt_types.specs.Runs.{HasPage, IsTypeMap, pages_end}

-- the first page that isn't free
abbrev pub first_ranged : RegisterFile → ℕ
first_ranged f = if is_fixed_enabled f then 0x100 else 0

-- the type map, if each page below one had that page's type
pub record IsMapFrom (f : RegisterFile) (from : ℕ) (runs : List Run) : Type 0 where
  pub map : IsTypeMap runs
  pub whole : pages_end 0 runs ≡ page_count f
  pub kinds : All (λ r. (page : ℕ) → HasPage r page → page_type f (max from page) ≡ r.kind) runs
