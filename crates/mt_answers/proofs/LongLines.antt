-- A command line of five words or more is none.
use Rattle.std.proofs.Common.{◌≡◌, ℕ, ◌≤◌, List, [], ◌∷◌, length, None, refl, arith}
use Rattle.mt_answers.specs.CommandLine.{command_of}

pub no_command : (words : List (List ℕ)) → 5 ≤ length words → None ≡ command_of words
no_command [] long = absurd (omega arith)
no_command (a ∷ []) long = absurd (omega arith)
no_command (a ∷ b ∷ []) long = absurd (omega arith)
no_command (a ∷ b ∷ c ∷ []) long = absurd (omega arith)
no_command (a ∷ b ∷ c ∷ d ∷ []) long = absurd (omega arith)
no_command (a ∷ b ∷ c ∷ d ∷ e ∷ words) long = refl
