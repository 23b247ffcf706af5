use Rattle.std.proofs.Common.{is_ok}
use Rattle.mt_bus.proofs.Held.{held_pushed}
use Rattle.mt_bus.proofs.bus.Bus.add.Goals as goal

pub invariant_of-self : goal.invariant_of-self
invariant_of-self c = held_pushed c.self.inside.cpus.items c.push.new.self.items c.args.cpu c.self.inside.holders (is_ok c.push.result) c.push.ensures.items c.requires c.self.invariant

pub invariant_of-self-2 : goal.invariant_of-self-2
invariant_of-self-2 c = held_pushed c.self.inside.cpus.items c.push.new.self.items c.args.cpu c.self.inside.holders (is_ok c.push.result) c.push.ensures.items c.requires c.self.invariant
