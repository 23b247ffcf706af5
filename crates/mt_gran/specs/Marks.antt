-- Pages with marks, and their longest runs of one mark (own).
use Rattle.std.specs.Prelude.{◌≡◌, ◌≢◌, ℕ, suc, ◌/◌, ◌^◌, ◌<◌, ◌≤◌, ◌||◌, true, false, if◌then◌else◌, List, [], ◌∷◌, Option, None, Some}
use Rattle.mt_kinds.specs.declared.mem_type.MemType.{MemType}
use Rattle.mt_kinds.specs.declared.mem_type.MemType.TheVariants.{UC, WB}
use Rattle.mt_regs.specs.declared.page_type.PageType.{PageType}
use Rattle.mt_regs.specs.declared.page_type.PageType.TheVariants.{Kind}
use Rattle.mt_regs.specs.RegisterFile.{RegisterFile, page_count}
use Rattle.mt_regs.specs.PageTypes.{page_type}
use Rattle.mt_types.specs.declared.run.Run.{Run}
use Rattle.mt_types.specs.Runs.{HasKind, run_end}
use Rattle.mt_trie.specs.Contexts.{is_kind}
use Rattle.mt_gran.specs.declared.cut.Cut.{Cut}
use Rattle.mt_gran.specs.Granules.{TypedPages, is_whole, rounded_kind}

-- the pages from one up to another have the mark, which is a type or none
abbrev pub HaveMark : (ℕ → Option PageType) → ℕ → ℕ → Option PageType → Type 0
HaveMark marks from to mark = (page : ℕ) → from ≤ page → page < to → marks page ≡ mark

-- the first of the runs, if there is one, doesn't go on with the type where the run ends
abbrev pub EndsBefore : Run → List Run → Type 0
EndsBefore r [] = Unit {0}
EndsBefore r (s ∷ ss) = run_end r ≡ s.first → r.kind ≢ s.kind

-- the longest runs of marked pages from one page up to another
abbrev pub AreRunsOf : (ℕ → Option PageType) → ℕ → ℕ → List Run → Type 0
AreRunsOf marks from to [] = (from ≤ to) × HaveMark marks from to None
AreRunsOf marks from to (r ∷ rs) =
    (from ≤ r.first) × HaveMark marks from r.first None × (0 < r.count) × HaveMark marks r.first (run_end r) (Some r.kind) × EndsBefore r rs
    × AreRunsOf marks (run_end r) to rs

abbrev pub rounded_mark : TypedPages → ℕ → ℕ → Option PageType
rounded_mark m g page = Some (rounded_kind m g page)

-- the type that a page loses, if any
abbrev pub lost_mark : TypedPages → ℕ → ℕ → Option PageType
lost_mark m g page = if is_kind (m.kind page) UC || (m.free page || is_whole m g (page / 2 ^ g)) then None else Some (m.kind page)

-- how many pages of a part lose WB
abbrev pub part_loss : Run → ℕ
part_loss part = if is_kind part.kind WB then part.count else 0

-- a run of the type map of a file whose types are defined
pub record IsWholeRun (f : RegisterFile) (r : Run) : Type 0 where
  pub type : MemType
  pub kind : r.kind ≡ Kind type
  pub some : 0 < r.count
  pub within : run_end r ≤ page_count f
  pub pages : HasKind f r
  pub before : (page : ℕ) → suc page ≡ r.first → page_type f page ≢ r.kind
  pub behind : run_end r < page_count f → page_type f (run_end r) ≢ r.kind

-- the pages of a run are free up to one place, and from another up to a third one they are in whole granules
pub record IsCut (m : TypedPages) (g : ℕ) (r : Run) (c : Cut) : Type 0 where
  pub begins : r.first ≤ c.free_end
  pub head_ends : c.free_end ≤ c.whole_from
  pub tail_begins : c.whole_from ≤ c.whole_to
  pub ends : c.whole_to ≤ c.end
  pub end_is : c.end ≡ run_end r
  pub free : (page : ℕ) → r.first ≤ page → page < c.free_end → m.free page ≡ true
  pub not_free : (page : ℕ) → c.free_end ≤ page → page < run_end r → m.free page ≡ false
  pub whole : (page : ℕ) → c.whole_from ≤ page → page < c.whole_to → is_whole m g (page / 2 ^ g) ≡ true
  pub head : (page : ℕ) → c.free_end ≤ page → page < c.whole_from → is_whole m g (page / 2 ^ g) ≡ false
  pub tail : (page : ℕ) → c.whole_to ≤ page → page < run_end r → is_whole m g (page / 2 ^ g) ≡ false
