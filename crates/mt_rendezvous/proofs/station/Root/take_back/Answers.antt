use Rattle.std.proofs.Common.{arith}
use Rattle.mt_rendezvous.proofs.RootSteps.{joins}
use Rattle.mt_rendezvous.proofs.station.Root.take_back.Goals as goal

pub join_seat-requires : goal.join_seat-requires
join_seat-requires c = let l = c.requires.root in let a = c.requires.pass in let w = c.args.station.now.wide in
    (l.0, a.1, a.2, omega arith, joins c.args.station.now.table.shared.key _ _ _ _ a.0 l.1 a.3)
