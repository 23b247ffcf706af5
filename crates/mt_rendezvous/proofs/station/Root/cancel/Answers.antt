use Rattle.std.proofs.Common.{ap, ◌∙◌, arith}
use Rattle.mt_rendezvous.specs.declared.view.View.{View}
use Rattle.mt_rendezvous.proofs.Told.{cancels_told}
use Rattle.mt_rendezvous.proofs.station.Root.cancel.Goals as goal

pub fetch_add-requires : goal.fetch_add-requires
fetch_add-requires c = let r = c.requires in let w = c.args.station.now.wide in
    (r.same, omega arith, cancels_told c.args.station.now.table.shared.key _ _ c.args.self.now.seat.me r.root r.said)

pub returns-clause-leads : goal.returns-clause-leads
returns-clause-leads c =
    let r = c.requires in
    let e = c.fetch_add.ensures in
    let tells = e.2.2 in record {
      same = e.0 ∙ r.same;
      root = ap (λ (v : View). v.root) tells.1 ∙ r.root;
      said = ap (λ (v : View). v.go) tells.1;
      told = ap (λ (v : View). v.start) tells.1 ∙ r.told;
      bare = tells.0 ∙ r.bare;
    }

pub returns-clause-held : goal.returns-clause-held
returns-clause-held c = ap (λ (v : View). v.held) c.fetch_add.ensures.2.2.1

pub returns-clause-event : goal.returns-clause-event
returns-clause-event c = (c.fetch_add.result, c.fetch_add.ensures.2)
