-- Which ranges divided blocks take, and a table of them in the order in which a search comes to the blocks (own).
use Rattle.std.specs.Prelude.{◌≡◌, ℕ, zero, suc, ◌+◌, ◌-◌, ◌^◌, ◌<◌, Bool, true, false, if◌then◌else◌, List, ◌++◌, length, Option, None, Some, slice_get}
use Rattle.mt_kinds.specs.Types.{type_of_byte}
use Rattle.mt_kinds.specs.declared.mem_type.MemType.{MemType}
use Rattle.mt_kinds.specs.declared.mem_type.MemType.TheVariants.{UC, WC, WT, WP, WB}
use Rattle.mt_trie.specs.declared.context.Context.{Context}
use Rattle.mt_trie.specs.declared.context.Context.TheVariants.{Untouched, Has, Clash}
use Rattle.mt_trie.specs.declared.wish.Wish.{Wish}
use Rattle.mt_trie.specs.declared.wish.Wish.TheVariants.{Any, Only, Mixed}
use Rattle.mt_tidy.specs.AllCosts.{AreWords, IsBelow}
use Rattle.mt_tidy.specs.Cost.{Task, cost, divided, plus, wish}
use Rattle.mt_tidy.specs.Fits.{Chosen, Laying, context_with, ranges_on}
use Rattle.mt_tidy.specs.declared.costs.Choice.{Choice}
use Rattle.mt_tidy.specs.declared.costs.Costs.{Costs}
use Rattle.mt_tidy.specs.declared.costs.Divided.{Divided}
use Rattle.mt_tidy.specs.declared.work_area.CostTable.{CostTable}

-- the range of a choice in a context
abbrev pub range_at : Choice → Context → Option MemType
range_at choice Untouched = type_of_byte choice.untouched
range_at choice (Has UC) = None
range_at choice (Has WC) = None
range_at choice (Has WT) = None
range_at choice (Has WP) = None
range_at choice (Has WB) = type_of_byte choice.wb
range_at choice Clash = None

-- the costs of the two halves of a block, taken together
abbrev pub halves_cost : Task → ℕ → ℕ → Context → Option ℕ
halves_cost k half first y = plus (cost k half first y) (cost k half (first + 2 ^ half) y)

-- in each context the choice leads to the least cost
abbrev pub IsChoice : Task → ℕ → (Context → Option ℕ) → Choice → Type 0
IsChoice k log halves choice = (x : Context) → Chosen k log halves x (range_at choice x)

-- the range that is chosen for a divided block was laid on it, and leaves a context for its halves
pub record Begun (k : Task) (log first : ℕ) (old new : Laying) : Type 0 where
  pub choice : Option MemType
  pub chosen : Chosen k log (halves_cost k (log - 1) first) old.context choice
  pub context : new.context ≡ context_with old.context choice
  pub after : new.ranges ≡ old.ranges ++ ranges_on first log choice

-- Words of the costs of two halves of a block that is divided. Its pages want two types, so it has no cost over UC and none
-- over a clash.
pub record AreHalves (halves : Context → Option ℕ) (costs : Costs) : Type 0 where
  pub words : AreWords halves costs
  pub below : (y : Context) → IsBelow (2 ^ 60) (halves y)
  pub uncached : halves (Has UC) ≡ None
  pub clash : halves Clash ≡ None

-- what is found of a block whose halves have these costs
pub record IsDivided (k : Task) (log : ℕ) (halves : Context → Option ℕ) (found : Divided) : Type 0 where
  pub costs : AreWords (divided k log halves) found.costs
  pub choice : IsChoice k log halves found.choice

abbrev pub is_mixed : Wish → Bool
is_mixed Any = false
is_mixed (Only t) = false
is_mixed Mixed = true

-- how many blocks are divided within one
unfoldable pub divided_count : Task → ℕ → ℕ → ℕ
divided_count k zero first = 0
divided_count k (suc log) first = if is_mixed (wish k (suc log) first) then 1 + divided_count k log first + divided_count k log (first + 2 ^ log) else 0

-- from a place on a table has the choices of the blocks that are divided within one, as far as it goes
unfoldable pub HasChoices : Task → ℕ → ℕ → ℕ → List Choice → Type 0
HasChoices k zero first place choices = Unit {0}
HasChoices k (suc log) first place choices =
    wish k (suc log) first ≡ Mixed
    → ((choice : Choice) → slice_get choices place ≡ Some choice → IsChoice k (suc log) (halves_cost k log first) choice)
    × HasChoices k log first (place + 1) choices
    × HasChoices k log (first + 2 ^ log) (place + 1 + divided_count k log first) choices

-- the tables have the same choices below a place
abbrev pub KeepsChoices : ℕ → List Choice → List Choice → Type 0
KeepsChoices place old new = (i : ℕ) → i < place → slice_get new i ≡ slice_get old i

-- the search came to the divided blocks within one, and their choices are in the table behind those of earlier blocks
pub record HasCome (k : Task) (log first : ℕ) (old new : CostTable) : Type 0 where
  pub count : new.count ≡ old.count + divided_count k log first
  pub earlier : KeepsChoices old.count old.choices new.choices
  pub places : length new.choices ≡ length old.choices
  pub choices : HasChoices k log first old.count new.choices

-- it came to those within the lower half of a block, and to those within the upper half
pub record HasComeToBoth (k : Task) (half first : ℕ) (old new : CostTable) : Type 0 where
  pub count : new.count ≡ old.count + divided_count k half first + divided_count k half (first + 2 ^ half)
  pub earlier : KeepsChoices old.count old.choices new.choices
  pub places : length new.choices ≡ length old.choices
  pub lower : HasChoices k half first old.count new.choices
  pub upper : HasChoices k half (first + 2 ^ half) (old.count + divided_count k half first) new.choices
