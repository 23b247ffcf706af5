use Rattle.std.proofs.Common.{ℕ, ◌<◌}
use Rattle.mt_explain.specs.Groups.{AreEqualAt}
use Rattle.mt_explain.proofs.groups.first_equal.Given as goal

abbrev pub invariant-loop-j : goal.invariant-loop-j
invariant-loop-j l = (i : ℕ) → i < l.j → AreEqualAt l.files i l.k → ⊥
