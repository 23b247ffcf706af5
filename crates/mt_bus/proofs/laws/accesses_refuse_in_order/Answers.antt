use Rattle.mt_bus.proofs.Refusing.{refuses}
use Rattle.mt_bus.proofs.laws.accesses_refuse_in_order.Goals as goal

pub returns : goal.returns
returns c = refuses
