use Rattle.std.proofs.Common.{arith, refl}
use Rattle.mt_lists.proofs.worked.worked_keys.Goals as goal

pub returns-clause-not_apart : goal.returns-clause-not_apart
returns-clause-not_apart c = λ h. h 0 2 (0, 0) (omega arith) (omega arith) refl
