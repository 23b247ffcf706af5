use Rattle.std.proofs.Common.{◌≡◌, ◌∙◌, length, sym, ap, subst, arith}
use Rattle.mt_machine.specs.declared.phase.Phase.TheVariants.{Arrived}
use Rattle.mt_machine.specs.declared.event.Event.TheVariants.{Leave, Pass}
use Rattle.mt_machine.specs.declared.go.Go.TheVariants.{Given}
use Rattle.mt_machine.specs.System.{Processor}
use Rattle.mt_cpu.specs.Steps.{is_shift}
use Rattle.mt_rendezvous.specs.declared.view.View.{View}
use Rattle.mt_rendezvous.specs.declared.view.Start.{Start}
use Rattle.mt_rendezvous.specs.Station.{held, start_of}
use Rattle.mt_machine.specs.Machine.{is_changing, own_step}
use Rattle.mt_rendezvous.specs.Plays.{StandsInUpdate, does}
use Rattle.mt_rendezvous.proofs.Told.{passes_told}
use Rattle.mt_rendezvous.proofs.Carried.{carried, of_it}
use Rattle.mt_rendezvous.specs.declared.view.Added.TheVariants.{Once}
use Rattle.mt_rendezvous.proofs.station.Pass.wait_first.Goals as goal

pub load-found-requires : goal.load-found-requires
load-found-requires g c = let r = c.loop.invariant.carries in let w = c.args.station.now.wide in
    (r.same, omega arith, passes_told c.args.station.now.table.shared.key _ _ c.loop.self.number c.loop.self.seat.me c.loop.cpu r.holds c.loop.invariant.waits)

pub returns-then-found-ge-CANCEL-clause-waited : goal.returns-then-found-ge-CANCEL-clause-waited
returns-then-found-ge-CANCEL-clause-waited g c =
    let e = c.load-found.ensures in
    let tells = e.2.1 in
    let moves = (tells.2 c.if-found-ge-CANCEL.true).0 in
    let t : Start = start_of c.args.station.now.table.shared.key in
    let is = c.shift.ensures t.goal in (
      record {
        carries = carried c.loop.invariant.carries _ _ c.shift.new.self Once (λ t. does t Leave) e.0 tells.0 (ap (λ (v : View). v.held) moves) (ap (λ (v : View). v.start) moves)
            (ap (λ (p : Processor). held c.loop.self.number p Once) (sym is));
        runs = ap (λ (p : Processor). p.phase) is;
      },
      is ∙ ap (λ (p : Processor). own_step t.goal Leave p) c.loop.invariant.cpu,
    )

pub shift-requires-then-found-station-clause-enabled : goal.shift-requires-then-found-station-clause-enabled
shift-requires-then-found-station-clause-enabled g c =
    let tells = c.load-found.ensures.2.1 in
    let r = c.loop.invariant.carries in
    let long : length c.loop.self.seat.me.0.start.cpus ≡ length c.args.station.now.table.shared.key.cpus.value.items = ap (λ (u : Start). length u.cpus) r.told in
    let counted = c.args.station.now.counted in
    let is = c.if-found-station.true in
    let passed = of_it r (λ u h. (h.cpu.phase ≡ Arrived) × StandsInUpdate u Given h.number (does u Pass h).cpu) (tells.1 (omega arith)).2 in
    ap (is_shift Pass) passed.0

pub returns-then-found-station-clause-waited : goal.returns-then-found-station-clause-waited
returns-then-found-station-clause-waited g c =
    let e = c.load-found.ensures in
    let tells = e.2.1 in
    let r = c.loop.invariant.carries in
    let t : Start = start_of c.args.station.now.table.shared.key in
    let long : length c.loop.self.seat.me.0.start.cpus ≡ length c.args.station.now.table.shared.key.cpus.value.items = ap (λ (u : Start). length u.cpus) r.told in
    let counted = c.args.station.now.counted in
    let same = c.if-found-station.true in
    let full = tells.1 (omega arith) in
    let moves = full.0 in
    let is = c.shift-then-found-station.ensures t.goal in
    let passed = of_it r (λ u h. (h.cpu.phase ≡ Arrived) × StandsInUpdate u Given h.number (does u Pass h).cpu) full.2 in (
      record {
        begins = c.requires.arrived.begins;
        carries = carried r _ _ c.shift-then-found-station.new.self Once (λ t. does t Pass) e.0 tells.0 (ap (λ (v : View). v.held) moves) (ap (λ (v : View). v.start) moves)
            (ap (λ (p : Processor). held c.loop.self.number p Once) (sym is));
        stands = subst (StandsInUpdate t Given c.loop.self.number) (sym is) passed.1;
        between = ap (λ (p : Processor). is_changing p.phase) is;
      },
      is ∙ ap (λ (p : Processor). own_step t.goal Pass p) c.loop.invariant.cpu,
    )
