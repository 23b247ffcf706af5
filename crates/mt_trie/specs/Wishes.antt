-- What the pages of a set want (own).
use Rattle.std.specs.Prelude.{◌≡◌, ◌≢◌, ℕ, ◌≤◌, nat_lt, Bool, ◌&&◌, if◌then◌else◌, List, Option, None, Some, IsTrue}
use Rattle.std.specs.List.{filter}
use Rattle.mt_kinds.specs.declared.mem_type.MemType.{MemType}
use Rattle.mt_ranges.specs.declared.block.Block.{Block}
use Rattle.mt_ranges.specs.Blocks.{block_end, has_page}
use Rattle.mt_regs.specs.declared.page_type.PageType.{PageType}
use Rattle.mt_regs.specs.declared.page_type.PageType.TheVariants.{Kind, Undefined}
use Rattle.mt_regs.specs.PageTypes.{is_type}
use Rattle.mt_types.specs.declared.run.Run.{Run}
use Rattle.mt_types.specs.Runs.{IsTypeMap, kind_at, pages_end, shares_page}
use Rattle.mt_trie.specs.declared.wish.Wish.{Wish}
use Rattle.mt_trie.specs.declared.wish.Wish.TheVariants.{Any, Only, Mixed}

-- ranges don't act on the page, because a fixed-range register gives its type
abbrev pub is_free_page : Bool → ℕ → Bool
is_free_page fixed page = fixed && nat_lt page 256

abbrev pub type_of_kind : PageType → Option MemType
type_of_kind (Kind t) = Some t
type_of_kind Undefined = None

-- the type that a page wants where it is to have the kind that runs give it: none where the page is free
abbrev pub wanted_type : Bool → List Run → ℕ → Option MemType
wanted_type fixed runs page = if is_free_page fixed page then None else type_of_kind (kind_at runs page)

-- some page of a set wants the type
pub record HasWish (wanted : ℕ → Option MemType) (Q : ℕ → Type 0) (t : MemType) : Type 0 where
  pub page : ℕ
  pub within : Q page
  pub wants : wanted page ≡ Some t

-- no page of a set wants another type
abbrev pub AllWish : (ℕ → Option MemType) → (ℕ → Type 0) → MemType → Type 0
AllWish wanted Q t = (page : ℕ) → Q page → (u : MemType) → wanted page ≡ Some u → u ≡ t

pub record TwoWishes (wanted : ℕ → Option MemType) (Q : ℕ → Type 0) : Type 0 where
  pub one : MemType
  pub other : MemType
  pub differ : one ≢ other
  pub has_one : HasWish wanted Q one
  pub has_other : HasWish wanted Q other

-- the pages of a set want nothing, one type alone, or two types
abbrev pub IsWish : (ℕ → Option MemType) → (ℕ → Type 0) → Wish → Type 0
IsWish wanted Q Any = (page : ℕ) → Q page → wanted page ≡ None
IsWish wanted Q (Only t) = AllWish wanted Q t × HasWish wanted Q t
IsWish wanted Q Mixed = TwoWishes wanted Q

-- what a set wants whose two parts want this
abbrev pub both : Wish → Wish → Wish
both Any w = w
both (Only t) Any = Only t
both (Only t) (Only u) = if is_type t u then Only t else Mixed
both (Only t) Mixed = Mixed
both Mixed w = Mixed

abbrev pub InBlock : Block → ℕ → Type 0
InBlock b page = IsTrue (has_page b page)

abbrev pub IsDefined : Run → Type 0
IsDefined r = r.kind ≢ Undefined

-- the runs are those that a type map lends for the block
pub record IsCutFor (runs : List Run) (b : Block) : Type 0 where
  pub map : List Run
  pub is_map : IsTypeMap map
  pub covered : block_end b ≤ pages_end 0 map
  pub lent : runs ≡ filter (shares_page b) map
