use Rattle.std.proofs.Common.{◌≡◌, ℕ, ◌<◌}
use Rattle.mt_procedure.specs.Dues.{HasUndueStep, IsDueAt}
use Rattle.mt_procedure.proofs.moves.State.undue_count.Given as goal

abbrev pub invariant-loop-k : goal.invariant-loop-k
invariant-loop-k l = record {
  due : l.count ≡ 0 → (j : ℕ) → j < l.k → IsDueAt l.case l.self j;
  undue : 0 < l.count → HasUndueStep l.case l.self;
}
