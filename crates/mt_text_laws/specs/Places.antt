-- Where a fault may stand (own).
use Rattle.std.specs.Prelude.{ℕ, ◌≡◌, ◌<◌, ◌+◌, ◌⊎◌, List, length}
use Rattle.mt_text.specs.Text.{HasWord, longest_line, past_limit}
use Rattle.mt_text.specs.declared.place.Place.{Place}

-- at a word that the line has, or past the limit of a line that is too long
abbrev pub StandsIn : ℕ → List ℕ → Place → Type 0
StandsIn number line place =
    ((word : ℕ × List ℕ) × HasWord line word × (place ≡ record { line = number; column = word.0 + 1 })) ⊎ ((longest_line < length line) × (place ≡ past_limit number))
