use Rattle.std.proofs.Common.{◌∙◌, ap, rules, slice_get, slice_set, sym}
use Rattle.mt_machine.specs.System.{System}
use Rattle.mt_machine.specs.Machine.{own_step}
use Rattle.mt_bus.proofs.Changed.{changed_there, lent_at, seen_at}
use Rattle.mt_bus.proofs.Holding.{held_after}
use Rattle.mt_bus.proofs.Stepping.{alone_takes_not, did, due_alone}
use Rattle.mt_bus.proofs.bus.Bus.do_local.Goals as goal

pub local-e-requires-clause-phase : goal.local-e-requires-clause-phase
local-e-requires-clause-phase c =
    (c.requires.between c.index_mut-cpu.result.now
    (seen_at c.args.self.now c.self.inside.cpus.items c.self.inside.ram c.args.k c.index_mut-cpu.result.now c.self.view_is (search rules) c.index_mut-cpu.ensures.value)).phase

pub local-e-requires-clause-fits : goal.local-e-requires-clause-fits
local-e-requires-clause-fits c =
    (c.requires.between c.index_mut-cpu.result.now
    (seen_at c.args.self.now c.self.inside.cpus.items c.self.inside.ram c.args.k c.index_mut-cpu.result.now c.self.view_is (search rules) c.index_mut-cpu.ensures.value)).fits

pub local-e-requires-clause-written : goal.local-e-requires-clause-written
local-e-requires-clause-written c =
    (c.requires.between c.index_mut-cpu.result.now
    (seen_at c.args.self.now c.self.inside.cpus.items c.self.inside.ram c.args.k c.index_mut-cpu.result.now c.self.view_is (search rules) c.index_mut-cpu.ensures.value)).written

pub local-e-requires-clause-numbers : goal.local-e-requires-clause-numbers
local-e-requires-clause-numbers c =
    c.requires.numbers c.index_mut-cpu.result.now
    (seen_at c.args.self.now c.self.inside.cpus.items c.self.inside.ram c.args.k c.index_mut-cpu.result.now c.self.view_is (search rules) c.index_mut-cpu.ensures.value)

pub returns-clause-event : goal.returns-clause-event
returns-clause-event c =
    let p = c.index_mut-cpu.result.now in
    let at = seen_at c.args.self.now c.self.inside.cpus.items c.self.inside.ram c.args.k p c.self.view_is (search rules) c.index_mut-cpu.ensures.value in
    due_alone c.args.self.now c.args.k p c.local-e.result at c.local-e.ensures.event

pub invariant_of-self : goal.invariant_of-self
invariant_of-self c =
    let p = c.index_mut-cpu.result.now in
    let ps = c.self.inside.cpus.items in
    held_after c.args.goal.now c.local-e.result c.args.k ps _ c.self.inside.holders c.forget_lines.new.holders
    (ap (slice_set ps c.args.k) c.local-e.ensures.step ∙ sym (changed_there (own_step c.args.goal.now c.local-e.result) c.args.k ps p (lent_at ps c.args.k p (search rules) c.index_mut-cpu.ensures.value)))
    c.forget_lines.ensures.dropped c.forget_lines.ensures.kept c.self.invariant

pub returns-clause-step : goal.returns-clause-step
returns-clause-step c =
    let p = c.index_mut-cpu.result.now in
    let ps = c.self.inside.cpus.items in
    let here = lent_at ps c.args.k p (search rules) c.index_mut-cpu.ensures.value in
    let at = ap (λ (s : System). slice_get s.processors c.args.k) (sym c.self.view_is) ∙ here in
    did c.args.goal.now c.local-e.result c.args.k c.args.self.now ps _ c.self.inside.ram c.write_word_of.new.ram
    (alone_takes_not c.args.goal.now p c.local-e.result (c.requires.between p at).phase c.local-e.ensures.event) c.self.view_is
    (ap (slice_set ps c.args.k) c.local-e.ensures.step ∙ sym (changed_there (own_step c.args.goal.now c.local-e.result) c.args.k ps p here))
    c.write_word_of.ensures
