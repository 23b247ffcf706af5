use Rattle.std.proofs.Common.{◌∙◌, ◌++◌, ◌∷◌, [], ap, rules, List}
use Rattle.mt_cache.specs.declared.line.CacheLine.{CacheLine}
use Rattle.mt_cache.specs.Calls.{clean_line_of, with_room}
use Rattle.mt_bus.proofs.Changed.{changed_in}
use Rattle.mt_bus.proofs.Held.{held_filled}
use Rattle.mt_bus.proofs.bus.Bus.add_line.Goals as goal

pub invariant_of-self : goal.invariant_of-self
invariant_of-self c =
    held_filled c.args.k c.args.number c.era-era.result c.args.words c.self.inside.cpus.items c.index_mut-cpu.result.now _ c.add.new.self c.self.inside.holders
    c.add.ensures.added c.add.ensures.kept (search rules) c.index_mut-cpu.ensures.value
    (c.fill.ensures ∙ ap (λ (ls : List CacheLine). with_room 64 ls ++ clean_line_of c.args.number c.args.words c.era-era.result ∷ []) c.cache_mut.ensures.value) c.self.invariant

pub returns : goal.returns
returns c =
    let p = c.index_mut-cpu.result.now in
    changed_in (λ p. record p { lines = with_room 64 p.lines ++ clean_line_of c.args.number c.args.words p.era ∷ [] }) c.args.k c.args.self.now c.self.inside.cpus.items c.self.inside.ram p _
    c.self.view_is (search rules) c.index_mut-cpu.ensures.value
    (ap (λ (ls : List CacheLine). record p { lines = ls })
    (c.fill.ensures ∙ (λ i. with_room 64 (c.cache_mut.ensures.value i) ++ clean_line_of c.args.number c.args.words (c.era-era.ensures i) ∷ [])))
