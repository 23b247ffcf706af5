use Rattle.std.proofs.Common.{◌/◌}
use Rattle.mt_machine.specs.Access.{first_of_load}
use Rattle.mt_laws.proofs.Barrier.Stages.{first_load_stages}
use Rattle.mt_bus.proofs.Counts.{among}
use Rattle.mt_bus.proofs.Tables.{same_length}
use Rattle.mt_bus.proofs.bus.Bus.load.Goals as goal

pub load_after-requires : goal.load_after-requires
load_after-requires c =
    let s = c.args.self.now in
    let n = c.args.address / 64 in
    among c.args.k s c.first_of_load.new.self _ c.first_of_load.ensures (same_length s (first_of_load c.args.kind c.args.k n s) (first_load_stages c.args.kind c.args.k n s)) c.requires
