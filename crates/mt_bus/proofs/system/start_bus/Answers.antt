use Rattle.mt_bus.proofs.Held.{held_start}
use Rattle.mt_bus.proofs.system.start_bus.Goals as goal

pub invariant_of-result : goal.invariant_of-result
invariant_of-result c = held_start c.args.files.now c.in_ok-cpus.cpus.items c.in_ok-holders.holders c.in_ok-cpus.ensures
