-- Lists of worked examples.
use Rattle.std.specs.Prelude.{ℕ, List, [], ◌∷◌}

abbrev pub key_of : ℕ × ℕ → ℕ
key_of p = p.0

-- the keys 1, 2 and 4
abbrev pub three : List (ℕ × ℕ)
three = (1, 5) ∷ (2, 6) ∷ (4, 5) ∷ []
