-- How long the parts of a line are.
use Rattle.std.proofs.Common.{◌≡◌, ℕ, ◌+◌, List, ◌++◌, length, ap, ◌∙◌, length-append}

pub joined : (whole front text : List ℕ) → whole ≡ front ++ text → length whole ≡ length front + length text
joined whole front text is = ap length is ∙ length-append front text
