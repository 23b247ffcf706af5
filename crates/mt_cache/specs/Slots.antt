-- Lines in slots, and the slots in the order in which their lines were filled (own).
use Rattle.std.specs.Prelude.{◌≡◌, ◌≢◌, ℕ, ◌<◌, List, [], length, map, take, slice_index_or}
use Rattle.std.specs.List.{All, AllPairs}
use Rattle.mt_cache.specs.declared.line.CacheLine.{CacheLine}

abbrev pub no_line : CacheLine
no_line = record { number = 0; words = []; dirty = 0; era = 0 }

-- the line in a slot
abbrev pub in_slot : List CacheLine → ℕ → CacheLine
in_slot slots s = slice_index_or slots s no_line

-- the lines of the first slots of an order
abbrev pub in_order : ℕ → List ℕ → List CacheLine → List CacheLine
in_order count order slots = map (in_slot slots) (take count order)

-- each of 64 slots once
pub record IsOrder (order : List ℕ) : Type 0 where
  pub long : length order ≡ 64
  pub within : All (λ s. s < 64) order
  pub distinct : AllPairs (λ a b. a ≢ b) order
