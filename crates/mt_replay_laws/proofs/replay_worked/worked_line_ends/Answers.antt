use Rattle.std.proofs.Common.{◌≡◌, List, [], ◌∷◌, ◌++◌, ℕ, refl, arith, ap, length}
use Rattle.std.specs.Prelude.{codes}
use Rattle.mt_replay_laws.proofs.replay_worked.worked_line_ends.Goals as goal

pub returns-clause-ends : goal.returns-clause-ends
returns-clause-ends c = (codes "a", refl)

-- the second of two
abbrev second : List ℕ → ℕ
second [] = 0
second (a ∷ []) = 0
second (a ∷ b ∷ rest) = b

unlike : (front : List ℕ) → codes "ab" ≡ front ++ codes "a" → ⊥
unlike [] is = omega (arith, ap length is)
unlike (a ∷ []) is = omega (arith, ap second is)
unlike (a ∷ b ∷ []) is = omega (arith, ap length is)
unlike (a ∷ b ∷ x ∷ front) is = omega (arith, ap length is)

pub returns-clause-ends_not : goal.returns-clause-ends_not
returns-clause-ends_not c = λ h. unlike h.0 h.1
