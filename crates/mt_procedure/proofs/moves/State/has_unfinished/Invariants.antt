use Rattle.std.proofs.Common.{◌≡◌, ℕ, ◌<◌, false}
use Rattle.mt_procedure.specs.Dues.{is_unfinished}
use Rattle.mt_procedure.proofs.moves.State.has_unfinished.Given as goal

abbrev pub invariant-loop-k : goal.invariant-loop-k
invariant-loop-k l = (j : ℕ) → j < l.k → is_unfinished l.case l.self j ≡ false
