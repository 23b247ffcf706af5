-- Logs that differ in carriage returns at the ends of lines (own).
use Rattle.std.specs.Prelude.{ℕ, ◌≡◌, ◌≢◌, ◌⊎◌, ⊤, List, [], ◌∷◌, ◌++◌, length}
use Rattle.mt_text.specs.Text.{lines_of, longest_line, without_return}

-- The second line is the first with a CR behind it. The first ends with none, and isn't just as long as the longest line that is read.
pub record GetsReturn (line longer : List ℕ) : Type 0 where
  pub is : longer ≡ line ++ 13 ∷ []
  pub ends_without : without_return line ≡ line
  pub not_longest : length line ≢ longest_line

-- Each line of the second list is that of the first, or that with a CR.
abbrev pub GetReturns : List (List ℕ) → List (List ℕ) → Type 0
GetReturns [] [] = ⊤
GetReturns [] (y ∷ ys) = ⊥
GetReturns (x ∷ xs) [] = ⊥
GetReturns (x ∷ xs) (y ∷ ys) = ((x ≡ y) ⊎ GetsReturn x y) × GetReturns xs ys

abbrev pub DifferInReturns : List ℕ → List ℕ → Type 0
DifferInReturns a b = GetReturns (lines_of a) (lines_of b)
