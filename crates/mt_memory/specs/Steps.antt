-- Readers that go on from line to line (own).
--     run_from taken finished state number lines end      what lines come to, of which the first has this number
--     Becomes expected new result      a call leads a reader to what is expected
use Rattle.std.specs.Prelude.{ℕ, ◌≡◌, ◌+◌, List, [], ◌∷◌, Result, Ok, Err, MatchResult}
use Rattle.mt_text.specs.Reader.{Course}
use Rattle.mt_text.specs.declared.place.Place.{Place}

abbrev pub and_then : {S A F : Type 0} → Result S F → (S → Result A F) → Result A F
and_then (Ok state) next = next state
and_then (Err fault) next = Err fault

-- what a line makes of a state, by its number
abbrev pub Step : Type 0 → Type 0 → Type 0
Step S F = S → ℕ → List ℕ → Result S F

abbrev pub run_from : {S A F : Type 0} → Step S F → (S → Place → Result A F) → S → ℕ → List (List ℕ) → Place → Result A F
run_from taken finished state number [] end = finished state end
run_from taken finished state number (line ∷ lines) end = and_then (taken state number line) (λ next. run_from taken finished next (number + 1) lines end)

-- The call has the fault that is expected, or leads the reader to the state that is.
abbrev pub Becomes : {S F U : Type 0} → Result S F → S → Result U F → Type 0
Becomes expected new result = MatchResult result (λ _. expected ≡ Ok new) (λ fault. expected ≡ Err fault)

-- The lines that follow, of which the first has this number, lead a reader to this.
abbrev pub Leads : {S A F : Type 0} → Step S F → (S → Place → Result A F) → S → ℕ → Course (Result A F) → Type 0
Leads taken finished state number course = (lines : List (List ℕ)) (end : Place) → course lines end ≡ run_from taken finished state number lines end
