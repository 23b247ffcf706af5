-- The parts of the pages that lose their type (own).
use Rattle.std.specs.Prelude.{◌≡◌, ℕ, suc, ◌<◌, ◌≤◌, ◌⊎◌, true, false, List, [], ◌∷◌}
use Rattle.std.specs.List.{AllByRecursion}
use Rattle.mt_kinds.specs.declared.mem_type.MemType.{MemType}
use Rattle.mt_regs.specs.declared.page_type.PageType.TheVariants.{Kind}
use Rattle.mt_types.specs.declared.run.Run.{Run}
use Rattle.mt_types.specs.Runs.{HasPage, run_end}
use Rattle.mt_gran.specs.Granules.{TypedPages, loses}

-- a longest run of pages that lose one type
pub record IsLostRun (m : TypedPages) (g : ℕ) (r : Run) : Type 0 where
  pub type : MemType
  pub kind : r.kind ≡ Kind type
  pub some : 0 < r.count
  pub within : run_end r ≤ m.count
  pub pages : (page : ℕ) → HasPage r page → loses m g type page ≡ true
  pub before : (page : ℕ) → suc page ≡ r.first → loses m g type page ≡ false
  pub behind : run_end r < m.count → loses m g type (run_end r) ≡ false

-- each run begins at or behind the end of the one before, the first one at or behind a page
abbrev pub Ascend : ℕ → List Run → Type 0
Ascend from [] = Unit {0}
Ascend from (r ∷ rs) = (from ≤ r.first) × Ascend (run_end r) rs

-- some run has the page
abbrev pub IsInSome : ℕ → List Run → Type 0
IsInSome page [] = ⊥
IsInSome page (r ∷ rs) = HasPage r page ⊎ IsInSome page rs

-- all longest runs of pages that lose one type, in ascending order
pub record ArePartsOf (m : TypedPages) (g : ℕ) (parts : List Run) : Type 0 where
  pub each : AllByRecursion (IsLostRun m g) parts
  pub in_order : Ascend 0 parts
  pub all : (page : ℕ) → page < m.count → (t : MemType) → loses m g t page ≡ true → IsInSome page parts
