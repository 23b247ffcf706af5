-- A run after the runs before it (own).
use Rattle.std.specs.Prelude.{◌≡◌, ◌≢◌, ℕ, ◌+◌, ◌^◌, ◌<◌, ◌≤◌, Option, Some, None}
use Rattle.mt_regs.specs.declared.page_type.PageType.{PageType}
use Rattle.mt_types.specs.declared.run.Run.{Run}

-- the type differs from that of the run before, if there is one
abbrev pub DiffersFrom : Option PageType → PageType → Type 0
DiffersFrom None kind = Unit {0}
DiffersFrom (Some before) kind = before ≢ kind

-- the run may stand where the runs before it end at a page, the last of them with a type
pub record MayStandNext (next : ℕ) (before : Option PageType) (r : Run) : Type 0 where
  pub first : r.first ≡ next
  pub some : 0 < r.count
  pub bound : r.first + r.count ≤ 2 ^ 40
  pub differs : DiffersFrom before r.kind
