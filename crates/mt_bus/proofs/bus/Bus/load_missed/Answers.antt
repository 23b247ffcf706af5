use Rattle.std.proofs.Common.{◌/◌}
use Rattle.mt_bus.proofs.Misses.{absent_read, filled_missed}
use Rattle.mt_bus.proofs.bus.Bus.load_missed.Goals as goal

pub fill_line-requires-clause-absent : goal.fill_line-requires-clause-absent
fill_line-requires-clause-absent c =
    absent_read (c.args.address / 64) c.args.k c.args.self.now c.bus_read.new.self c.bus_read.ensures
    (filled_missed c.args.kind c.args.k (c.args.address / 64) c.args.self.now c.fills-is_filled.result c.requires.missed c.fills-is_filled.ensures c.if-is_filled.true)
