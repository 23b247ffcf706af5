use Rattle.std.proofs.Common.{◌∙◌, ap, sym}
use Rattle.mt_bus.proofs.Combining.{combined, emptied_if}
use Rattle.mt_bus.proofs.bus.Bus.combine.Goals as goal

pub returns-in-Some : goal.returns-in-Some
returns-in-Some c =
    c.empty_buffer.ensures
    ∙ sym (ap (emptied_if c.join.new.self) c.in-Some.is)
    ∙ combined c.args.k c.args.number c.args.word c.args.v c.args.self.now c.join.new.self c.join.result c.requires.word c.requires.processor c.join.ensures.out c.join.ensures.after

pub returns-in_default : goal.returns-in_default
returns-in_default c =
    sym (ap (emptied_if c.join.new.self) c.in_default.is)
    ∙ combined c.args.k c.args.number c.args.word c.args.v c.args.self.now c.join.new.self c.join.result c.requires.word c.requires.processor c.join.ensures.out c.join.ensures.after
