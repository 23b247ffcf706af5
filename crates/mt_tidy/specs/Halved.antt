-- The costs of a block's two halves, as a table of costs holds them (own).
use Rattle.std.specs.Prelude.{◌≡◌, ℕ, ◌+◌, ◌-◌, ◌^◌, ◌≤◌}
use Rattle.std.specs.List.{slice_index_or}
use Rattle.mt_trie.specs.declared.wish.Wish.TheVariants.{Mixed}
use Rattle.mt_tidy.specs.AllCosts.{AreCosts}
use Rattle.mt_tidy.specs.Cost.{Task, wish}
use Rattle.mt_tidy.specs.declared.costs.Costs.{Costs}
use Rattle.mt_tidy.specs.declared.work_area.CostTable.{CostTable}

-- the table has the costs of a block as those that were found last
abbrev pub HasFound : Task → ℕ → ℕ → CostTable → Type 0
HasFound k log first table = AreCosts k log first table.found

-- what is saved of blocks from a size on is as before
abbrev pub KeepsSaved : ℕ → CostTable → CostTable → Type 0
KeepsSaved log old new = (i : ℕ) (d : Costs) → log ≤ i → slice_index_or new.saved i d ≡ slice_index_or old.saved i d

-- Some pages of a block want one type and some another. The costs of its lower half are saved, and those of the upper one
-- were found last.
pub record HoldsHalves (k : Task) (log first : ℕ) (table : CostTable) : Type 0 where
  pub mixed : wish k log first ≡ Mixed
  pub lower : (d : Costs) → AreCosts k (log - 1) first (slice_index_or table.saved (log - 1) d)
  pub upper : AreCosts k (log - 1) (first + 2 ^ (log - 1)) table.found
