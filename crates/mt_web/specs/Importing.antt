-- What `mtrr-import` writes for words and a log, as its call over buffers has it (own).
--     ImportsFor words bytes text number      this text with this number is what the words make of these bytes
use Rattle.std.specs.Prelude.{ℕ, ◌≡◌, List}
use Rattle.mt_import.specs.Import.{output_of}
use Rattle.mt_web.specs.Outcome.{PageOutcome}

abbrev pub ImportsFor : List (List ℕ) → List ℕ → List ℕ → ℕ → Type 0
ImportsFor words bytes = PageOutcome (λ text status. (text ≡ (output_of words bytes).0) × (status ≡ (output_of words bytes).1)) bytes
