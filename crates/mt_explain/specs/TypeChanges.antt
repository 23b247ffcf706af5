-- The longest runs of pages whose types differ in two files (own). A page beyond a file's address width has no type there.
--     AreTypeChanges old new changes      all of them, each with its two types, in ascending order
--     changed_pages old new               how many pages they have
use Rattle.std.specs.Prelude.{ℕ, max, nat_lt, Bool, true, false, List, Option, None, Some, if◌then◌else◌}
use Rattle.mt_regs.specs.declared.page_type.PageType.{PageType}
use Rattle.mt_regs.specs.RegisterFile.{RegisterFile, page_count}
use Rattle.mt_regs.specs.PageTypes.{page_type, same_page_type}
use Rattle.mt_explain.specs.declared.span.Span.{Span}
use Rattle.mt_explain.specs.declared.type_change.TypeChange.{TypeChange}
use Rattle.mt_explain.specs.Spans.{AreSpans, marked_pages}

-- the type that a file gives a page, if it has the page
abbrev pub type_shown : RegisterFile → ℕ → Option PageType
type_shown f page = if nat_lt page (page_count f) then Some (page_type f page) else None

abbrev pub is_same_type : Option PageType → Option PageType → Bool
is_same_type (Some t) (Some u) = same_page_type t u
is_same_type (Some t) None = false
is_same_type None (Some u) = false
is_same_type None None = true

abbrev pub change_of : Option PageType → Option PageType → TypeChange
change_of old new = record { old = old; new = new }

-- the types of a page, if they differ
abbrev pub change_between : Option PageType → Option PageType → Option TypeChange
change_between old new = if is_same_type old new then None else Some (change_of old new)

abbrev pub change_mark : RegisterFile → RegisterFile → ℕ → Option TypeChange
change_mark old new page = change_between (type_shown old page) (type_shown new page)

abbrev pub AreTypeChanges : RegisterFile → RegisterFile → List (Span TypeChange) → Type 0
AreTypeChanges old new changes = AreSpans (change_mark old new) 0 (max (page_count old) (page_count new)) changes

abbrev pub changed_pages : RegisterFile → RegisterFile → ℕ
changed_pages old new = marked_pages (change_mark old new) (max (page_count old) (page_count new))
