use Rattle.std.proofs.Common.{◌/◌}
use Rattle.mt_machine.specs.Access.{first_of_store}
use Rattle.mt_laws.proofs.Barrier.Stages.{first_store_stages}
use Rattle.mt_bus.proofs.Counts.{among}
use Rattle.mt_bus.proofs.Tables.{same_length}
use Rattle.mt_bus.proofs.bus.Bus.store.Goals as goal

pub store_after-requires : goal.store_after-requires
store_after-requires c =
    let s = c.args.self.now in
    let n = c.args.address / 64 in
    among c.args.k s c.first_of_store.new.self _ c.first_of_store.ensures (same_length s (first_of_store c.args.kind c.args.k n s) (first_store_stages c.args.kind c.args.k n s)) c.requires
