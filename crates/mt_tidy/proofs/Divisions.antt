-- What is found of a block that is divided, from a table that holds the costs of its halves.
use Rattle.std.proofs.Common.{◌≡◌, ℕ, suc, ◌-◌, ◌≤◌, sym, subst, arith}
use Rattle.std.specs.List.{slice_index_or}
use Rattle.mt_trie.specs.declared.wish.Wish.TheVariants.{Mixed}
use Rattle.mt_tidy.specs.AllCosts.{AreBounded, AreCosts, sum_of}
use Rattle.mt_tidy.specs.Choosing.{AreHalves, IsDivided, halves_cost}
use Rattle.mt_tidy.specs.Cost.{Task, cost, divided, wish}
use Rattle.mt_tidy.specs.Halved.{HoldsHalves}
use Rattle.mt_tidy.specs.declared.costs.Costs.{Costs}
use Rattle.mt_tidy.specs.declared.costs.Divided.{Divided}
use Rattle.mt_tidy.specs.declared.work_area.CostTable.{CostTable}
use Rattle.mt_tidy.proofs.CostWords.{bounded_words, same_words}
use Rattle.mt_tidy.proofs.Sizes.{divided_is, halves_below, held_words}
use Rattle.mt_tidy.proofs.Uncached.{HasNone, halves_none}
use Rattle.mt_tidy.proofs.Wishes.{mixed_divides}

none_at : (k : Task) (log first : ℕ) → wish k log first ≡ Mixed → HasNone (halves_cost k (log - 1) first)
none_at k log first mixed =
    let next : suc (log - 1) ≡ log = omega (arith, mixed_divides k log first mixed) in
    halves_none k (log - 1) first (subst (λ n. wish k n first ≡ Mixed) (sym next) mixed)

module _ (k : Task) (log first : ℕ) (small : log ≤ 40) (table : CostTable) (holds : HoldsHalves k log first table) (sum : Costs)
    (is : (d : Costs) → sum ≡ sum_of (slice_index_or table.saved (log - 1) d) table.found) where
  pub held_halves : AreHalves (halves_cost k (log - 1) first) sum
  held_halves =
      let none = none_at k log first holds.mixed in
      record {
        words = held_words k log first small table holds sum is;
        below = halves_below k (log - 1) first (omega (arith, small));
        uncached = none.uncached;
        clash = none.clash;
      }

  pub held_bounded : AreBounded sum
  held_bounded = bounded_words (halves_cost k (log - 1) first) sum held_halves.below held_halves.words

pub divided_costs : (k : Task) (log first : ℕ) (found : Divided) → wish k log first ≡ Mixed → IsDivided k log (halves_cost k (log - 1) first) found → AreCosts k log first found.costs
divided_costs k log first found mixed is = same_words (divided k log (halves_cost k (log - 1) first)) (cost k log first) found.costs (divided_is k log first mixed) is.costs
