use Rattle.std.proofs.Common.{◌∙◌, ◌<◌, arith, List, ap, length, refl, subst, sym, take}
use Rattle.std.specs.List.{fold}
use Rattle.mt_cache.specs.declared.line.CacheLine.{CacheLine}
use Rattle.mt_machine.specs.Memory.{write_back}
use Rattle.mt_machine.specs.System.{Processor, System}
use Rattle.mt_machine.specs.Bus.{drain}
use Rattle.mt_machine.specs.ComingAndGoing.{taken_away}
use Rattle.mt_laws.proofs.Barrier.Stages.{drain_stages}
use Rattle.mt_bus.specs.Holders.{AreHeldBy}
use Rattle.mt_laws.specs.Parts.{system}
use Rattle.mt_bus.proofs.Changed.{lines_lent}
use Rattle.mt_bus.proofs.Counts.{among}
use Rattle.mt_bus.proofs.Held.{held_front}
use Rattle.mt_bus.proofs.Tables.{same_length}
use Rattle.mt_bus.proofs.bus.Bus.take_away.Goals as goal

pub index-requires : goal.index-requires
index-requires c =
    let full = c.self.inside.cpus.ok.0 in
    let within : c.args.k < length c.self.inside.cpus.items = subst (λ (s : System). c.args.k < length s.processors) (sym c.self.view_is)
    (among c.args.k c.args.self.now c.drain.new.self _ c.drain.ensures (same_length c.args.self.now (drain c.args.k c.args.self.now) (drain_stages c.args.k c.args.self.now)) c.requires) in
    omega (arith, full, within)

pub invariant_of-self : goal.invariant_of-self
invariant_of-self c =
    subst (λ (ps : List Processor). AreHeldBy ps c.self.inside.holders) (sym c.truncate.ensures.items) (held_front c.self.inside.cpus.items c.args.k c.self.inside.holders c.self.invariant)

pub returns : goal.returns
returns c =
    let ps = c.self.inside.cpus.items in
    let within = subst (λ (s : System). c.args.k < length s.processors) (sym c.self.view_is)
    (among c.args.k c.args.self.now c.drain.new.self _ c.drain.ensures (same_length c.args.self.now (drain c.args.k c.args.self.now) (drain_stages c.args.k c.args.self.now)) c.requires) in
    (λ i. system (c.truncate.ensures.items i) (c.write_lines.ensures i))
    ∙ ap (λ (ls : List CacheLine). system (take c.args.k ps) (fold write_back c.self.inside.ram ls))
    (sym (lines_lent (system ps c.self.inside.ram) ps c.self.inside.ram c.args.k c.index.result.now c.cache.result.now refl within c.index.ensures c.cache.ensures))
    ∙ ap (taken_away c.args.k) (c.self.view_is ∙ c.drain.ensures)
