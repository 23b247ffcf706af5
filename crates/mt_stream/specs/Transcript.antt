-- What the lines of a text tell (own): a text and a status.
--     Telling      what lines tell from some point on, the first of which has this number
--     transcript start text      what a whole text tells
--     telling step ends point      where each line makes of a point a text and the next point, or tells the last
use Rattle.std.specs.Prelude.{ℕ, ◌+◌, List, [], ◌∷◌, ◌++◌, Option, Some, None, Result, Ok, Err}
use Rattle.mt_text.specs.Text.{lines_of, end_of}
use Rattle.mt_text.specs.declared.place.Place.{Place}
use Rattle.mt_ports.specs.declared.status.Status.{Status}
use Rattle.mt_ports.specs.declared.status.Status.TheVariants.{Done}

pub record Transcript : Type 0 where
  pub text : List ℕ
  pub status : Status

abbrev pub transcript_with : List ℕ → Status → Transcript
transcript_with text status = record { text = text; status = status }

-- what is told after a text
abbrev pub behind : List ℕ → Transcript → Transcript
behind text rest = record { text = text ++ rest.text; status = rest.status }

-- All lines of a text that ends at a place, or those of a front, behind which others may come: nothing is told where these end.
abbrev pub Telling : Type 0
Telling = Option Place → ℕ → List (List ℕ) → Transcript

abbrev pub transcript : Telling → List ℕ → Transcript
transcript start text = start (Some (end_of text)) 1 (lines_of text)

-- ---- by steps

abbrev pub LineStep : Type 0 → Type 0
LineStep P = ℕ → List ℕ → P → Result (List ℕ × P) Transcript

abbrev pub told_step : {P : Type 0} → (P → Transcript) → Result (List ℕ × P) Transcript → Transcript
told_step rest (Ok step) = behind step.0 (rest step.1)
told_step rest (Err last) = last

abbrev pub told_from : {P : Type 0} → LineStep P → (P → Transcript) → ℕ → List (List ℕ) → P → Transcript
told_from step finish number [] p = finish p
told_from step finish number (line ∷ lines) p = told_step (told_from step finish (number + 1) lines) (step number line p)

abbrev pub telling : {P : Type 0} → LineStep P → (Place → P → Transcript) → P → Telling
telling step ends p (Some end) number lines = told_from step (ends end) number lines p
telling step ends p None number lines = told_from step (λ last. transcript_with [] Done) number lines p
