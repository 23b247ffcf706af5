use Rattle.std.proofs.Common.{sym, ap, arith}
use Rattle.mt_machine.specs.System.{Processor}
use Rattle.mt_rendezvous.specs.declared.view.View.{View}
use Rattle.mt_rendezvous.specs.Station.{held}
use Rattle.mt_rendezvous.specs.Plays.{arrive_again}
use Rattle.mt_rendezvous.proofs.Told.{arrives_again_told}
use Rattle.mt_rendezvous.proofs.Carried.{carried}
use Rattle.mt_rendezvous.specs.declared.view.Added.TheVariants.{Twice}
use Rattle.mt_rendezvous.proofs.station.Pass.arrive_again.Goals as goal

pub fetch_add-requires : goal.fetch_add-requires
fetch_add-requires c = let r = c.requires.passed.carries in let w = c.args.station.now.wide in
    (r.same, omega arith, arrives_again_told c.args.station.now.table.shared.key _ _ c.args.self.now.number c.args.self.now.seat.me c.args.cpu.now r.holds c.requires.restored)

pub returns-clause-arrived : goal.returns-clause-arrived
returns-clause-arrived c =
    let e = c.fetch_add.ensures in
    let tells = e.2.1 in
    let is = c.shift.ensures c.args.station.now.table.shared.key.goal.value in record {
      begins = c.requires.passed.begins;
      carries = carried c.requires.passed.carries _ _ c.shift.new.self Twice arrive_again e.0 tells.0 (ap (λ (v : View). v.held) tells.1) (ap (λ (v : View). v.start) tells.1)
          (ap (λ (p : Processor). held c.args.self.now.number p Twice) (sym is));
      waits = ap (λ (p : Processor). p.phase) is;
    }
