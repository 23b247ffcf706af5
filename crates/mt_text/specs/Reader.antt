-- What a reader makes of the lines of a text (own).
--     Course A      what lines lead to, of a text that ends at this place
--     TakesLine At old new line result      a call that takes the next line
use Rattle.std.specs.Prelude.{ℕ, ◌+◌, ◌≡◌, ◌≤◌, List, ◌∷◌, take, length, Result, Err, MatchResult}
use Rattle.mt_text.specs.Text.{longest_line}
use Rattle.mt_text.specs.declared.line.Line.{Line}
use Rattle.mt_text.specs.declared.place.Place.{Place}

abbrev pub Course : Type 0 → Type 0
Course A = List (List ℕ) → Place → A

-- A feed lends a line that is too long in its front. The line is short and those behind it lead to the rest, or it has a fault whatever is behind it.
abbrev pub TakesLine : {R A F U : Type 0} → (R → ℕ → Course (Result A F) → Type 0) → R → R → Line → Result U F → Type 0
TakesLine {A = A} {F = F} At old new line result =
    (course : Course (Result A F)) (whole : List ℕ) → At old line.number course → line.bytes.now ≡ take (longest_line + 1) whole
    → MatchResult result
    (λ _. (length whole ≤ longest_line) × At new (line.number + 1) (λ lines. course (whole ∷ lines)))
    (λ fault. (lines : List (List ℕ)) (end : Place) → course (whole ∷ lines) end ≡ Err fault)
