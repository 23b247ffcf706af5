use Rattle.std.proofs.Common.{◌≡◌, ◌≤◌, ℕ, List, [], ◌∷◌, None, length, map, string_bytes, refl, arith}
use Rattle.mt_map.specs.Asked.{asked_by}
use Rattle.mt_map.proofs.asked.asked_by.Goals as goal

usage_from_three : {S : Type 0} (bytes : S → List ℕ) (words : List S) → 3 ≤ length words → None ≡ asked_by (map bytes words)
usage_from_three bytes [] many = absurd (omega (arith, many))
usage_from_three bytes (a ∷ []) many = absurd (omega (arith, many))
usage_from_three bytes (a ∷ b ∷ []) many = absurd (omega (arith, many))
usage_from_three bytes (a ∷ b ∷ c ∷ more) many = refl

pub returns-in-len3-up : goal.returns-in-len3-up
returns-in-len3-up c = usage_from_three string_bytes c.args.words.now c.in-len3-up.len_at_least
