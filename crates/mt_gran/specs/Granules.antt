-- Granules of pages, and types that are rounded to them (own).
use Rattle.std.specs.Prelude.{◌≡◌, ℕ, zero, suc, ◌+◌, ◌/◌, ◌^◌, ◌==◌, Bool, true, not, ◌&&◌, ◌||◌, if◌then◌else◌, List}
use Rattle.std.specs.List.{All, list_any}
use Rattle.mt_kinds.specs.declared.mem_type.MemType.{MemType}
use Rattle.mt_kinds.specs.declared.mem_type.MemType.TheVariants.{UC, WB}
use Rattle.mt_regs.specs.declared.page_type.PageType.{PageType}
use Rattle.mt_regs.specs.declared.page_type.PageType.TheVariants.{Kind}
use Rattle.mt_regs.specs.RegisterFile.{RegisterFile, page_count}
use Rattle.mt_regs.specs.PageTypes.{page_type}
use Rattle.mt_types.specs.declared.run.Run.{Run}
use Rattle.mt_types.specs.Runs.{HasPage, IsTypeMap, pages_end}
use Rattle.mt_trie.specs.Contexts.{is_kind, types}
use Rattle.mt_tidy.specs.Wanted.{is_free}

-- some pages, from 0 on, which of them are free, and their types
pub record TypedPages : Type 0 where
  pub count : ℕ
  pub free : ℕ → Bool
  pub kind : ℕ → PageType

abbrev pub pages_of : RegisterFile → TypedPages
pages_of f = record { count = page_count f; free = is_free f; kind = page_type f }

-- each number below one passes a test
abbrev pub each_below : (ℕ → Bool) → ℕ → Bool
each_below test zero = true
each_below test (suc n) = each_below test n && test n

-- how many numbers below one pass a test
abbrev pub count_below : (ℕ → Bool) → ℕ → ℕ
count_below test zero = 0
count_below test (suc n) = count_below test n + (if test n then 1 else 0)

-- A granule of log g has the pages that agree in page / 2 ^ g. Here is one that isn't free.
abbrev pub is_of_granule : TypedPages → ℕ → ℕ → ℕ → Bool
is_of_granule m g granule page = page / 2 ^ g == granule && not (m.free page)

-- each page of the granule that isn't free has the type
unfoldable pub has_type : TypedPages → ℕ → ℕ → MemType → Bool
has_type m g granule t = each_below (λ page. not (is_of_granule m g granule page) || is_kind (m.kind page) t) m.count

-- all its pages that aren't free have one type
unfoldable pub is_whole : TypedPages → ℕ → ℕ → Bool
is_whole m g granule = list_any (has_type m g granule) types

-- a page that is free or in a whole granule keeps its type, and any other one gets UC
abbrev pub rounded_kind : TypedPages → ℕ → ℕ → PageType
rounded_kind m g page = if m.free page || is_whole m g (page / 2 ^ g) then m.kind page else Kind UC

-- the page isn't free, has the type and not UC, and is rounded to UC
abbrev pub loses : TypedPages → ℕ → MemType → ℕ → Bool
loses m g t page = not (m.free page) && is_kind (m.kind page) t && not (is_kind (m.kind page) UC) && is_kind (rounded_kind m g page) UC

-- how many pages lose WB
abbrev pub lost_pages : TypedPages → ℕ → ℕ
lost_pages m g = count_below (loses m g WB) m.count

abbrev pub HasRoundedKind : TypedPages → ℕ → Run → Type 0
HasRoundedKind m g r = (page : ℕ) → HasPage r page → rounded_kind m g page ≡ r.kind

-- the type map of the rounded types
pub record AreRounded (m : TypedPages) (g : ℕ) (runs : List Run) : Type 0 where
  pub map : IsTypeMap runs
  pub whole : pages_end 0 runs ≡ m.count
  pub kinds : All (HasRoundedKind m g) runs
