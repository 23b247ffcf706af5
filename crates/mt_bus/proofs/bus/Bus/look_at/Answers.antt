use Rattle.std.proofs.Common.{rules}
use Rattle.mt_bus.proofs.Held.{held_but, none_there}
use Rattle.mt_bus.proofs.bus.Bus.look_at.Goals as goal

pub invariant_of-self : goal.invariant_of-self
invariant_of-self c =
    held_but c.self.inside.cpus.items c.remove.new.self c.self.inside.holders c.args.k c.args.number c.remove.ensures
    (none_there c.self.inside.cpus.items c.args.k c.args.number c.index.result.now c.cache.result.now c.may_have.result
    (search rules) c.index.ensures c.cache.ensures c.may_have.ensures c.if-not-may_have.true)
    c.self.invariant
