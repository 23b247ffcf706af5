use Rattle.std.proofs.Common.{rules}
use Rattle.mt_bus.proofs.Changed.{seen_at}
use Rattle.mt_bus.proofs.bus.Bus.map.Goals as goal

pub map-requires-clause-index : goal.map-requires-clause-index
map-requires-clause-index c =
    (c.requires.fits c.index_mut-cpu.result.now
    (seen_at c.args.self.now c.self.inside.cpus.items c.self.inside.ram c.args.k c.index_mut-cpu.result.now c.self.view_is (search rules) c.index_mut-cpu.ensures.value)).0

pub map-requires-clause-page : goal.map-requires-clause-page
map-requires-clause-page c =
    (c.requires.fits c.index_mut-cpu.result.now
    (seen_at c.args.self.now c.self.inside.cpus.items c.self.inside.ram c.args.k c.index_mut-cpu.result.now c.self.view_is (search rules) c.index_mut-cpu.ensures.value)).1

pub map-requires-clause-address : goal.map-requires-clause-address
map-requires-clause-address c =
    (c.requires.fits c.index_mut-cpu.result.now
    (seen_at c.args.self.now c.self.inside.cpus.items c.self.inside.ram c.args.k c.index_mut-cpu.result.now c.self.view_is (search rules) c.index_mut-cpu.ensures.value)).2
