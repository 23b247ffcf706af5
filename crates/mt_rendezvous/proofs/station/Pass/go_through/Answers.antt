use Rattle.std.proofs.Common.{ℕ, Some, sym, ap, ◌∙◌, subst}
use Rattle.mt_machine.specs.declared.event.Event.TheVariants.{Release}
use Rattle.mt_machine.specs.System.{Processor}
use Rattle.mt_rendezvous.specs.declared.view.Start.{Start}
use Rattle.mt_rendezvous.specs.Station.{start_of}
use Rattle.mt_rendezvous.specs.Plays.{Took}
use Rattle.mt_rendezvous.proofs.Ends.{settled}
use Rattle.mt_rendezvous.proofs.station.Pass.go_through.Goals as goal

pub returns-clause-attended : goal.returns-clause-attended
returns-clause-attended g c =
    let t : Start = start_of c.args.station.now.table.shared.key in
    let w = c.wait_second.ensures in
    let number = w.number ∙ c.change.ensures.number ∙ c.wait_first.ensures.number ∙ c.arrive.ensures.number in
    let q : Processor = c.wait_second.new.cpu in
    let k : ℕ = c.args.self.now.number in
    let took : Took t k Release c.change.new.cpu q = subst (λ (n : ℕ). Took t n Release c.change.new.cpu q) number w.took in (
      w.released.carries,
      w.released.shown ∙ ap (λ (n : ℕ). Some n) (sym c.args.station.now.counted),
      settled t c.arrive.ensures.arrived.begins k c.change.new.cpu q took c.args.cpu.now c.arrive.ensures.first w.released.risen,
    )

pub wait_first-requires-clause-heard : goal.wait_first-requires-clause-heard
wait_first-requires-clause-heard g c = c.tell-heard.ensures ∙ c.arrive.ensures.token ∙ sym c.arrive.ensures.number
