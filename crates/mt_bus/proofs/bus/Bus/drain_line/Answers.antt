use Rattle.std.proofs.Common.{◌∙◌, ap, sym}
use Rattle.mt_bus.proofs.Combining.{emptied_if, taken}
use Rattle.mt_bus.proofs.bus.Bus.drain_line.Goals as goal

pub returns-in-Some : goal.returns-in-Some
returns-in-Some c =
    c.empty_buffer.ensures
    ∙ sym (ap (emptied_if c.take_buffer.new.self) c.in-Some.is)
    ∙ taken c.args.k c.args.number c.args.self.now c.take_buffer.new.self c.take_buffer.result c.take_buffer.ensures.out c.take_buffer.ensures.after

pub returns-in_default : goal.returns-in_default
returns-in_default c =
    sym (ap (emptied_if c.take_buffer.new.self) c.in_default.is)
    ∙ taken c.args.k c.args.number c.args.self.now c.take_buffer.new.self c.take_buffer.result c.take_buffer.ensures.out c.take_buffer.ensures.after
