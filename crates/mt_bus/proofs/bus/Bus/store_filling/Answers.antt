use Rattle.std.proofs.Common.{◌/◌}
use Rattle.mt_bus.proofs.Counts.{among, fill_count, read_count}
use Rattle.mt_bus.proofs.Misses.{absent_after}
use Rattle.mt_bus.proofs.bus.Bus.store_filling.Goals as goal

pub fill_line-requires-clause-processor : goal.fill_line-requires-clause-processor
fill_line-requires-clause-processor c =
    among c.args.k c.args.self.now c.read_and_drop_others.new.self _ c.read_and_drop_others.ensures (read_count c.args.k (c.args.address / 64) c.args.self.now) c.requires.processor

pub fill_line-requires-clause-absent : goal.fill_line-requires-clause-absent
fill_line-requires-clause-absent c =
    absent_after (c.args.address / 64) c.args.k c.args.self.now c.read_and_drop_others.new.self c.read_and_drop_others.ensures c.requires.absent

pub write_own-requires : goal.write_own-requires
write_own-requires c =
    among c.args.k c.read_and_drop_others.new.self c.fill_line.new.self _ c.fill_line.ensures (fill_count c.args.k (c.args.address / 64) c.read_and_drop_others.new.self)
    (among c.args.k c.args.self.now c.read_and_drop_others.new.self _ c.read_and_drop_others.ensures (read_count c.args.k (c.args.address / 64) c.args.self.now) c.requires.processor)
