use Rattle.std.proofs.Common.{arith}
use Rattle.mt_flat.proofs.worked.worked_turns.Goals as goal

pub returns-clause-no_go : goal.returns-clause-no_go
returns-clause-no_go c = λ h. absurd (cc h.1.0)

pub returns-clause-one_takes_not : goal.returns-clause-one_takes_not
returns-clause-one_takes_not c = λ h. omega (arith, h.1 1)

pub returns-clause-not_accepted : goal.returns-clause-not_accepted
returns-clause-not_accepted c = λ h. absurd (cc h.0.2)
