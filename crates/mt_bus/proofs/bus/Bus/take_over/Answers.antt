use Rattle.mt_bus.proofs.Skipped.{taken_alone}
use Rattle.mt_bus.proofs.bus.Bus.take_over.Goals as goal

pub returns-then-is_nowhere_else : goal.returns-then-is_nowhere_else
returns-then-is_nowhere_else c = taken_alone c.args.k c.args.number c.args.self.now c.requires (c.is_nowhere_else.ensures c.if-is_nowhere_else.true)
