-- Room for a least list among 32 pairs (own).
use Rattle.std.specs.Prelude.{◌≡◌, ℕ, ◌+◌, ◌≤◌, List, length, Option, Some}
use Rattle.mt_tidy.specs.declared.range.Range.{Range}

-- behind these ranges there is room for as many as a block costs
pub record HasRoom (cost : Option ℕ) (ranges : List Range) : Type 0 where
  pub count : ℕ
  pub costs : cost ≡ Some count
  pub few : length ranges + count ≤ 32
