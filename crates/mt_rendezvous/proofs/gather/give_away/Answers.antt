use Rattle.std.proofs.Common.{ap, ◌∙◌, refl, arith}
use Rattle.mt_rendezvous.specs.Station.{one, others}
use Rattle.mt_rendezvous.proofs.RootSteps.{offered_at, splits}
use Rattle.mt_rendezvous.proofs.gather.give_away.Goals as goal

pub split_seat-seat-requires : goal.split_seat-seat-requires
split_seat-seat-requires c =
    let w = c.args.station.now.wide in
    let o = offered_at c.args.station.now.table.shared.key.cpus.value.items c.args.i c.args.cpu c.requires.first in
    (c.requires.leads.same, omega arith, splits c.args.station.now.table.shared.key _ _ _ _ (c.requires.offers ∙ o.0))

pub returns-clause-offers : goal.returns-clause-offers
returns-clause-offers c =
    let s = c.split_seat-seat.ensures in
    let o = offered_at c.args.station.now.table.shared.key.cpus.value.items c.args.i c.args.cpu c.requires.first in
    ap (λ m. m.0.held) s.2 ∙ ap others (c.requires.offers ∙ o.0)

pub returns-clause-attends : goal.returns-clause-attends
returns-clause-attends c =
    let s = c.split_seat-seat.ensures in
    let l = c.requires.leads in
    let o = offered_at c.args.station.now.table.shared.key.cpus.value.items c.args.i c.args.cpu c.requires.first in
    record {
      numbered = refl;
      first = c.requires.first;
      carries = record {
        same = s.3 ∙ l.same;
        holds = ap (λ m. m.0.held) s.4 ∙ ap one (c.requires.offers ∙ o.0);
        told = ap (λ m. m.0.start) s.4 ∙ l.told;
        below = o.1;
        bare = ap (λ m. m.1) s.4;
      };
      unshown = ap (λ m. m.0.shown) s.4;
    }
