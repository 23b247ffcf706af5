use Rattle.std.proofs.Common.{◌/◌}
use Rattle.mt_bus.proofs.Counts.{among, read_count}
use Rattle.mt_bus.proofs.bus.Bus.store_through.Goals as goal

pub write_own-requires : goal.write_own-requires
write_own-requires c = among c.args.k c.args.self.now c.store_past.new.self _ c.store_past.ensures (read_count c.args.k (c.args.address / 64) c.args.self.now) c.requires
