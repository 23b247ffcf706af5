-- Wishes: types that pages are to have (own).
--     wished_type file wishes page       the type of the last wish that has the page, or else its own
--     wish_fault file wish               what is wrong with a wish
--     AreWished file wishes runs         the map of the wished types
use Rattle.std.specs.Prelude.{◌≡◌, ◌≢◌, ℕ, ◌+◌, ◌^◌, ◌<◌, nat_le, nat_lt, Bool, true, false, not, ◌&&◌, if◌then◌else◌, List, fold, length, Option, None, Some}
use Rattle.std.specs.List.{All, AllWithin, HoldsAt, sum_by}
use Rattle.mt_regs.specs.declared.page_type.PageType.{PageType}
use Rattle.mt_regs.specs.declared.page_type.PageType.TheVariants.{Kind, Undefined}
use Rattle.mt_regs.specs.Alike.{edges_past}
use Rattle.mt_regs.specs.PageTypes.{page_type}
use Rattle.mt_regs.specs.RegisterFile.{RegisterFile, page_count}
use Rattle.mt_tidy.specs.Wanted.{is_free, is_supported_type}
use Rattle.mt_types.specs.declared.run.Run.{Run}
use Rattle.mt_types.specs.Runs.{HasPage, IsTypeMap, pages_end}
use Rattle.mt_mend.specs.declared.fault.WishFault.{WishFault}
use Rattle.mt_mend.specs.declared.fault.WishFault.TheVariants.{NoPage, BeyondWidth, UnsupportedType}
use Rattle.mt_mend.specs.declared.wish.Wish.{Wish}

abbrev pub has_page : Wish → ℕ → Bool
has_page w page = nat_le w.first page && nat_le page w.last

-- the type that a wish gives a page that has another one
abbrev pub granted : ℕ → PageType → Wish → PageType
granted page own w = if has_page w page then Kind w.kind else own

-- what wishes make of a page's own type: the last one that has the page decides
abbrev pub over : PageType → List Wish → ℕ → PageType
over own wishes page = fold (granted page) own wishes

abbrev pub wished_type : RegisterFile → List Wish → ℕ → PageType
wished_type f wishes page = over (page_type f page) wishes page

-- what is wrong with a wish
abbrev pub wish_fault : RegisterFile → Wish → Option WishFault
wish_fault f w =
    if nat_lt w.last w.first then Some NoPage
    else if nat_le (page_count f) w.last then Some BeyondWidth
    else if not (is_supported_type f w.kind) then Some UnsupportedType
    else None

abbrev pub IsWish : RegisterFile → Wish → Type 0
IsWish f w = wish_fault f w ≡ None

-- wish n is the first at fault
pub record IsFirstWishFault (f : RegisterFile) (wishes : List Wish) (n : ℕ) (fault : WishFault) : Type 0 where
  pub within : n < length wishes
  pub at : HoldsAt (λ w. wish_fault f w ≡ Some fault) wishes n
  pub before : AllWithin (IsWish f) wishes 0 n

-- a file gives the pages of fixed ranges the types that are wished of another one
abbrev pub AreMetBelow : RegisterFile → List Wish → RegisterFile → Type 0
AreMetBelow f wishes file = (page : ℕ) → is_free f page ≡ true → page_type file page ≡ wished_type f wishes page

-- it is the first page of one to which the file gives another type
pub record IsUnmet (f : RegisterFile) (wishes : List Wish) (file : RegisterFile) (page : ℕ) : Type 0 where
  pub free : is_free f page ≡ true
  pub unmet : page_type file page ≢ wished_type f wishes page
  pub before : (other : ℕ) → other < page → page_type file other ≡ wished_type f wishes other

abbrev pub HasWishedType : RegisterFile → List Wish → Run → Type 0
HasWishedType f wishes r = (page : ℕ) → HasPage r page → wished_type f wishes page ≡ r.kind

-- the map of the wished types
pub record AreWished (f : RegisterFile) (wishes : List Wish) (runs : List Run) : Type 0 where
  pub map : IsTypeMap runs
  pub whole : pages_end 0 runs ≡ page_count f
  pub kinds : All (HasWishedType f wishes) runs

-- a type that the processor has
abbrev pub can_give : RegisterFile → PageType → Bool
can_give f (Kind t) = is_supported_type f t
can_give f Undefined = false

-- the page is the first of the first run whose type the processor hasn't
pub record IsFirstUndefined (f : RegisterFile) (runs : List Run) (page : ℕ) : Type 0 where
  pub place : ℕ
  pub within : place < length runs
  pub at : HoldsAt (λ r. (r.first ≡ page) × (can_give f r.kind ≡ false)) runs place
  pub before : AllWithin (λ r. can_give f r.kind ≡ true) runs 0 place

-- ---- edges

abbrev pub EndsInTime : Wish → Type 0
EndsInTime w = w.last < 2 ^ 40

-- how many of the two ends of a wish are past a page
abbrev pub edges_of : ℕ → Wish → ℕ
edges_of page w = (if nat_lt page w.first then 1 else 0) + (if nat_le page w.last then 1 else 0)

-- how many edges of a file and of wishes are past a page
abbrev pub all_edges_past : RegisterFile → List Wish → ℕ → ℕ
all_edges_past f wishes page = edges_past f page + sum_by (edges_of page) wishes
