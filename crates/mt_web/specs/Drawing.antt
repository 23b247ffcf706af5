-- What `mtrr-map` writes for words and a dump, as its call over buffers has it (own).
--     DrawsFor words bytes text number      this text with this number is what the words make of these bytes
use Rattle.std.specs.Prelude.{ℕ, List}
use Rattle.mt_map.specs.Asked.{asked_by}
use Rattle.mt_map.specs.Map.{Output}
use Rattle.mt_web.specs.Outcome.{PageOutcome}

abbrev pub DrawsFor : List (List ℕ) → List ℕ → List ℕ → ℕ → Type 0
DrawsFor words bytes = PageOutcome (Output (asked_by words) bytes) bytes
