-- Logs that differ in lines that match nothing (own).
use Rattle.std.specs.Prelude.{ℕ, ◌≡◌, ◌⊎◌, ◌+◌, ⊤, List, [], ◌∷◌, Option}
use Rattle.mt_text.specs.Text.{lines_of}
use Rattle.mt_import.specs.declared.format.Choice.{Choice}
use Rattle.mt_import.specs.declared.format.Choice.TheVariants.{Auto, Only}
use Rattle.mt_import.specs.declared.format.Format.{Format}
use Rattle.mt_import.specs.declared.reading.LineSays.TheVariants.{Nothing}
use Rattle.mt_import.specs.Shown.{said_in, said_of}

-- A line that matches nothing: for `auto` in any format.
abbrev pub MatchesNothing : Choice → ℕ → List ℕ → Type 0
MatchesNothing Auto number line = (format : Option Format) → said_in format number line ≡ Nothing
MatchesNothing (Only format) number line = said_of format number line ≡ Nothing

-- the lines are the same, or both match nothing
abbrev pub AreAlikeLines : Choice → ℕ → List ℕ → List ℕ → Type 0
AreAlikeLines choice number x y = (x ≡ y) ⊎ (MatchesNothing choice number x × MatchesNothing choice number y)

abbrev pub AreAlike : Choice → ℕ → List (List ℕ) → List (List ℕ) → Type 0
AreAlike choice number [] [] = ⊤
AreAlike choice number [] (y ∷ ys) = ⊥
AreAlike choice number (x ∷ xs) [] = ⊥
AreAlike choice number (x ∷ xs) (y ∷ ys) = AreAlikeLines choice number x y × AreAlike choice (number + 1) xs ys

abbrev pub AreAlikeLogs : Choice → List ℕ → List ℕ → Type 0
AreAlikeLogs choice a b = AreAlike choice 1 (lines_of a) (lines_of b)
