-- How many pages have a type (own).
--     type_pages file kind      their number
use Rattle.std.specs.Prelude.{ℕ, Option, None, Some, if◌then◌else◌}
use Rattle.mt_regs.specs.declared.page_type.PageType.{PageType}
use Rattle.mt_regs.specs.RegisterFile.{RegisterFile, page_count}
use Rattle.mt_regs.specs.PageTypes.{page_type, same_page_type}
use Rattle.mt_explain.specs.Spans.{marked_pages}

abbrev pub marked_if : PageType → PageType → Option PageType
marked_if kind t = if same_page_type t kind then Some t else None

-- a page's type, if it is this one
abbrev pub type_mark : RegisterFile → PageType → ℕ → Option PageType
type_mark f kind page = marked_if kind (page_type f page)

abbrev pub type_pages : RegisterFile → PageType → ℕ
type_pages f kind = marked_pages (type_mark f kind) (page_count f)
