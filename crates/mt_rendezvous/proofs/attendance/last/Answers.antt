use Rattle.mt_rendezvous.proofs.Ended.{left, popped}
use Rattle.mt_rendezvous.proofs.attendance.last.Goals as goal

pub returns-clause-some : goal.returns-clause-some
returns-clause-some c = popped _ _ _ c.pop.result c.pop.ensures.items c.requires

pub returns-clause-rest : goal.returns-clause-rest
returns-clause-rest c = left _ _ _ c.pop.result c.pop.ensures.items c.requires
