use Rattle.std.proofs.Common.{◌∙◌, ap, rules, slice_set, sym}
use Rattle.mt_machine.specs.Machine.{own_step}
use Rattle.mt_bus.proofs.Changed.{changed_in, changed_there, lent_at, seen_at}
use Rattle.mt_bus.proofs.Holding.{held_stepped}
use Rattle.mt_bus.proofs.bus.Bus.move_phase.Goals as goal

pub shift-requires-clause-enabled : goal.shift-requires-clause-enabled
shift-requires-clause-enabled c =
    (c.requires.ready c.index_mut-cpu.result.now
    (seen_at c.args.self.now c.self.inside.cpus.items c.self.inside.ram c.args.k c.index_mut-cpu.result.now c.self.view_is (search rules) c.index_mut-cpu.ensures.value)).enabled

pub shift-requires-clause-room : goal.shift-requires-clause-room
shift-requires-clause-room c =
    (c.requires.ready c.index_mut-cpu.result.now
    (seen_at c.args.self.now c.self.inside.cpus.items c.self.inside.ram c.args.k c.index_mut-cpu.result.now c.self.view_is (search rules) c.index_mut-cpu.ensures.value)).room

pub shift-requires-clause-empty : goal.shift-requires-clause-empty
shift-requires-clause-empty c =
    (c.requires.ready c.index_mut-cpu.result.now
    (seen_at c.args.self.now c.self.inside.cpus.items c.self.inside.ram c.args.k c.index_mut-cpu.result.now c.self.view_is (search rules) c.index_mut-cpu.ensures.value)).empty

pub invariant_of-self : goal.invariant_of-self
invariant_of-self c =
    let p = c.index_mut-cpu.result.now in
    let ps = c.self.inside.cpus.items in
    held_stepped p.file c.args.e c.args.k ps _ c.self.inside.holders
    (ap (slice_set ps c.args.k) (c.shift.ensures p.file) ∙ sym (changed_there (own_step p.file c.args.e) c.args.k ps p (lent_at ps c.args.k p (search rules) c.index_mut-cpu.ensures.value)))
    c.self.invariant

pub returns : goal.returns
returns c = λ goal.
    changed_in (own_step goal c.args.e) c.args.k c.args.self.now c.self.inside.cpus.items c.self.inside.ram c.index_mut-cpu.result.now c.shift.new.self c.self.view_is
    (search rules) c.index_mut-cpu.ensures.value (c.shift.ensures goal)
