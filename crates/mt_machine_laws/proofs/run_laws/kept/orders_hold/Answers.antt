use Rattle.mt_laws.proofs.Registers.UnderWay.{orders_hold}
use Rattle.mt_machine_laws.proofs.run_laws.kept.orders_hold.Goals as goal

pub returns : goal.returns
returns c = orders_hold
