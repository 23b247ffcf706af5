use Rattle.mt_bus.proofs.Ruling.{rules}
use Rattle.mt_bus.proofs.laws.controls_refuse_in_order.Goals as goal

pub returns : goal.returns
returns c = rules
