use Rattle.std.proofs.Common.{◌≡◌, ◌≤◌, ℕ, List, [], ◌∷◌, None, length, map, string_bytes, refl, arith}
use Rattle.mt_memory.specs.Command.{asked_of}
use Rattle.mt_memory.proofs.command.asked_of.Goals as goal

three : {Z : Type 0} (bytes : Z → List ℕ) (words : List Z) → 3 ≤ length words → None ≡ asked_of (map bytes words)
three bytes [] few = absurd (omega (arith, few))
three bytes (one ∷ []) few = absurd (omega (arith, few))
three bytes (one ∷ two ∷ []) few = absurd (omega (arith, few))
three bytes (one ∷ two ∷ next ∷ words) few = refl

pub returns-in_default : goal.returns-in_default
returns-in_default c = three string_bytes c.args.words.now c.in_default.len_at_least
