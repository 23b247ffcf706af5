-- What a call leaves in the host's room, and the number that it returns (own).
--     Placed output old new written result      a text that is an output stands in front of the room, or the room is too small for it
use Rattle.std.specs.Prelude.{ℕ, ◌≡◌, ◌≤◌, ◌<◌, List, ◌++◌, drop, length, ⊤}

-- the number of a call whose text has more bytes than the room
abbrev pub small_room : ℕ
small_room = 64

-- the number of a call whose command runs on threads
abbrev pub on_threads : ℕ
on_threads = 65

-- The text with this number is in front of the room, and behind it the room is as before. Or the room is too small and is as before.
pub data Places (text : List ℕ) (number : ℕ) (old new : List ℕ) (result : ℕ) : Type 0 where
  fits : length text ≤ length old → new ≡ text ++ drop (length text) old → result ≡ number → Places text number old new result
  small : length old < length text → new ≡ old → result ≡ small_room → Places text number old new result

-- Which texts with which numbers are an output is given.
pub record Placed (output : List ℕ → ℕ → Type 0) (old new : List ℕ) (written result : ℕ) : Type 0 where
  pub text : List ℕ
  pub number : ℕ
  pub is_output : output text number
  pub length_written : written ≡ length text
  pub places : Places text number old new result

-- an output of which nothing is told
abbrev pub IsAnyText : List ℕ → ℕ → Type 0
IsAnyText text number = ⊤
