use Rattle.std.proofs.Common.{◌≡◌, ℕ, ◌+◌, length, Some, sym, ap, ◌∙◌, subst, arith}
use Rattle.mt_machine.specs.declared.event.Event.TheVariants.{Release}
use Rattle.mt_machine.specs.System.{Processor}
use Rattle.mt_machine.specs.Machine.{Steps, common_era}
use Rattle.mt_rendezvous.specs.declared.view.View.{View}
use Rattle.mt_rendezvous.specs.declared.view.Start.{Start}
use Rattle.mt_rendezvous.specs.Station.{held, start_of}
use Rattle.mt_rendezvous.specs.declared.view.Held.{Held}
use Rattle.mt_rendezvous.specs.Plays.{PassSteps, Took, does, word_step}
use Rattle.mt_rendezvous.proofs.Keeps.{took_of}
use Rattle.mt_rendezvous.proofs.Told.{releases_told}
use Rattle.mt_rendezvous.proofs.Carried.{carried, of_it}
use Rattle.mt_rendezvous.specs.declared.view.Added.TheVariants.{Twice}
use Rattle.mt_rendezvous.proofs.station.Pass.wait_second.Goals as goal

pub load-found-requires : goal.load-found-requires
load-found-requires g c = let r = c.loop.invariant.carries in let w = c.args.station.now.wide in
    (r.same, omega arith, releases_told c.args.station.now.table.shared.key _ _ c.loop.self.number c.loop.self.seat.me c.loop.cpu r.holds (ap (λ (p : Processor). p.phase) c.loop.invariant.cpu ∙ c.requires.waits))

pub returns-then-found-station-clause-released : goal.returns-then-found-station-clause-released
returns-then-found-station-clause-released g c =
    let e = c.load-found.ensures in
    let tells = e.2.1 in
    let r = c.loop.invariant.carries in
    let t : Start = start_of c.args.station.now.table.shared.key in
    let long : length c.loop.self.seat.me.0.start.cpus ≡ length c.args.station.now.table.shared.key.cpus.value.items = ap (λ (u : Start). length u.cpus) r.told in
    let counted = c.args.station.now.counted in
    let same = c.if-found-station.true in
    let full = tells.2 (omega arith) in
    let moves = full.0 in
    let is = c.shift.ensures t.goal in record {
      carries = carried r _ _ c.shift.new.self Twice (λ t. does t Release) e.0 tells.0 (ap (λ (v : View). v.held) moves) (ap (λ (v : View). v.start) moves)
          (ap (λ (p : Processor). held c.loop.self.number p Twice) (sym is));
      shown = ap (λ (v : View). v.shown) moves ∙ ap Some same;
      runs = ap (λ (p : Processor). p.phase) is;
      risen = ap (λ (p : Processor). p.era) is ∙ ap (λ (n : ℕ). n + 1) (of_it r (λ u h. h.cpu.era ≡ common_era u.cpus) full.2);
    }

pub returns-then-found-station-clause-took : goal.returns-then-found-station-clause-took
returns-then-found-station-clause-took g c =
    let tells = c.load-found.ensures.2.1 in
    let r = c.loop.invariant.carries in
    let t : Start = start_of c.args.station.now.table.shared.key in
    let long : length c.loop.self.seat.me.0.start.cpus ≡ length c.args.station.now.table.shared.key.cpus.value.items = ap (λ (u : Start). length u.cpus) r.told in
    let counted = c.args.station.now.counted in
    let same = c.if-found-station.true in
    let is = c.shift.ensures t.goal in
    let h : Held = held c.loop.self.number c.loop.cpu Twice in
    let took = took_of t 1 c.load-found.result c.load-found.result Release h (does t Release h) (of_it r (λ u x. PassSteps u (word_step 1 c.load-found.result c.load-found.result) (Some (Steps x.number Release)) x (does u Release x)) (tells.2 (omega arith)).1) in
    subst (λ (p : Processor). Took t c.loop.self.number Release p c.shift.new.self) c.loop.invariant.cpu (subst (Took t c.loop.self.number Release c.loop.cpu) (sym is) took)

pub shift-requires-clause-room : goal.shift-requires-clause-room
shift-requires-clause-room g c release =
    let tells = c.load-found.ensures.2.1 in
    let r = c.loop.invariant.carries in
    let t : Start = start_of c.args.station.now.table.shared.key in
    let long : length c.loop.self.seat.me.0.start.cpus ≡ length c.args.station.now.table.shared.key.cpus.value.items = ap (λ (u : Start). length u.cpus) r.told in
    let counted = c.args.station.now.counted in
    let same = c.if-found-station.true in
    let era = of_it r (λ u h. h.cpu.era ≡ common_era u.cpus) (tells.2 (omega arith)).2 in
    let room = c.requires.begins.room in
    omega arith
