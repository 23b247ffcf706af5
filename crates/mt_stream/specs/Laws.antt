-- What a run between two lines keeps to (own), for proofs.
use Rattle.std.specs.Prelude.{ℕ, ◌≡◌, ◌<◌, List, [], ◌∷◌, length, Option, Some, None}
use Rattle.mt_text.specs.Text.{longest_line}
use Rattle.mt_text.specs.declared.place.Place.{Place}
use Rattle.mt_ports.specs.declared.status.Status.TheVariants.{BadText, Done}
use Rattle.mt_stream.specs.Lines.{Leads, Path, Running}
use Rattle.mt_stream.specs.Transcript.{Telling, Transcript, transcript_with}

-- lines too long are told as one offence, whatever their bytes and the lines behind are
pub record IsLongTold (was : Telling) (number : ℕ) : Type 0 where
  pub telling : Transcript
  pub bad : telling.status ≡ BadText
  pub is : (line : List ℕ) (end : Option Place) (lines : List (List ℕ)) → longest_line < length line → was end number (line ∷ lines) ≡ telling

-- and lead to one thing
pub record IsLongLed (was : Path) (number : ℕ) : Type 0 where
  pub leads : Leads
  pub bad : leads.tells.status ≡ BadText
  pub is : (line : List ℕ) (end : Option Place) (lines : List (List ℕ)) → longest_line < length line → was end number (line ∷ lines) ≡ leads

pub record AreLaws (R : Running) : Type 0 where
  pub long : (now : R.Run) (so_far : List ℕ) (was : Path) (number : ℕ) → R.At now so_far was → IsLongLed was number
  pub unknown : (now : R.Run) (so_far : List ℕ) (was : Path) (number : ℕ) → R.At now so_far was → (was None number []).tells ≡ transcript_with [] Done
  pub ended : (now : R.Run) (so_far : List ℕ) (was : Path) (place : Place) (number : ℕ) → R.At now so_far was → (was (Some place) number []).tells ≡ R.ends now place
