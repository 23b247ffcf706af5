use Rattle.std.proofs.Common.{◌∙◌, ap, refl, arith}
use Rattle.mt_private.specs.declared.view.YardView.{YardView}
use Rattle.mt_private.proofs.Residents.Roots.{gives_yard, made, told_go}
use Rattle.mt_private.proofs.host.Host.go.Goals as goal

pub fetch_add-requires : goal.fetch_add-requires
fetch_add-requires c = let r = c.requires in let w = c.args.yard.now.wide in
    (r.same, omega arith, gives_yard c.args.yard.now.table.shared.key _ _ c.args.self.now.seat.me r.root r.said)

pub returns-clause-hosts : goal.returns-clause-hosts
returns-clause-hosts c =
    let r = c.requires in
    let e = c.fetch_add.ensures in
    let says = told_go _ _ c.args.self.now.seat.me c.fetch_add.new.seat.me r.root e.2 in
    record {
      same = e.0 ∙ r.same;
      root = ap (λ (v : YardView). v.root) says.1 ∙ r.root;
      said = ap (λ (v : YardView). v.go) says.1;
      told = ap (λ (v : YardView). v.start) says.1 ∙ r.told;
      bare = refl;
    }

pub returns-clause-same : goal.returns-clause-same
returns-clause-same c = (ap (λ (v : YardView). v.held) (told_go _ _ c.args.self.now.seat.me c.fetch_add.new.seat.me c.requires.root c.fetch_add.ensures.2).1, refl, refl)

pub returns-clause-event : goal.returns-clause-event
returns-clause-event c = made _ 0 1 _ c.args.self.now.seat.me c.fetch_add.new.seat.me c.args.yard.now.no_slots c.fetch_add.ensures.2
