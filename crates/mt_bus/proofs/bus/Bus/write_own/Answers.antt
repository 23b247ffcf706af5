use Rattle.std.proofs.Common.{◌/◌, ◌∙◌, ap, rules, List}
use Rattle.mt_cache.specs.declared.line.CacheLine.{CacheLine}
use Rattle.mt_cache.specs.Lines.{change_line}
use Rattle.mt_cache.specs.Calls.{write_word}
use Rattle.mt_cache.proofs.Lists.{write_keeps}
use Rattle.mt_machine.specs.Memory.{word_of}
use Rattle.mt_machine.specs.Bus.{with_lines}
use Rattle.mt_bus.specs.Holders.{all_may}
use Rattle.mt_bus.proofs.Changed.{changed_in, lent_at}
use Rattle.mt_bus.proofs.Held.{held_put, less_changed}
use Rattle.mt_bus.proofs.bus.Bus.write_own.Goals as goal

pub invariant_of-self : goal.invariant_of-self
invariant_of-self c =
    held_put c.self.inside.cpus.items c.self.inside.holders c.args.k c.index_mut-cpu.result.now _
    (lent_at c.self.inside.cpus.items c.args.k c.index_mut-cpu.result.now (search rules) c.index_mut-cpu.ensures.value)
    (λ g. ap (all_may c.self.inside.holders c.args.k) c.write_copy.ensures
    ∙ less_changed (c.args.address / 64) (write_word (word_of c.args.address) c.args.v c.args.dirty) (write_keeps (word_of c.args.address) c.args.v c.args.dirty) c.cache_mut.result.now c.self.inside.holders c.args.k
    (ap (all_may c.self.inside.holders c.args.k) c.cache_mut.ensures.value ∙ g)) c.self.invariant

pub returns : goal.returns
returns c =
    let p = c.index_mut-cpu.result.now in
    let f = change_line (c.args.address / 64) (write_word (word_of c.args.address) c.args.v c.args.dirty) in
    changed_in (with_lines f) c.args.k c.args.self.now c.self.inside.cpus.items c.self.inside.ram p _ c.self.view_is (search rules) c.index_mut-cpu.ensures.value
    (ap (λ (ls : List CacheLine). record p { lines = ls }) (c.write_copy.ensures ∙ ap f c.cache_mut.ensures.value))
