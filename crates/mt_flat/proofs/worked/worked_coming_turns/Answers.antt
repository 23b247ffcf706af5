use Rattle.std.proofs.Common.{arith}
use Rattle.mt_flat.proofs.worked.worked_coming_turns.Goals as goal

pub returns-clause-none_left : goal.returns-clause-none_left
returns-clause-none_left c = λ h. omega (arith, h.1)

pub returns-clause-comes_under_way : goal.returns-clause-comes_under_way
returns-clause-comes_under_way c = λ h. absurd (cc h.1.0)

pub returns-clause-goes_under_way : goal.returns-clause-goes_under_way
returns-clause-goes_under_way c = λ h. absurd (cc h.1.0.0)
