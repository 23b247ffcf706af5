use Rattle.std.proofs.Common.{◌/◌}
use Rattle.mt_cache.specs.Lines.{without_line}
use Rattle.mt_machine.specs.Bus.{with_lines}
use Rattle.mt_bus.proofs.Counts.{among, others_count}
use Rattle.mt_bus.proofs.bus.Bus.store_hit.Goals as goal

pub write_own-requires : goal.write_own-requires
write_own-requires c =
    among c.args.k c.args.self.now c.take_over.new.self _ c.take_over.ensures (others_count 0 c.args.k (with_lines (without_line (c.args.address / 64))) c.args.self.now.processors) c.requires
