use Rattle.std.proofs.Common.{◌∙◌, ap, slice_get, sym}
use Rattle.mt_machine.specs.System.{System, change}
use Rattle.mt_machine.specs.Machine.{own_step}
use Rattle.mt_bus.proofs.Counts.{among}
use Rattle.mt_bus.proofs.Stepping.{prepared_length}
use Rattle.mt_bus.proofs.bus.Bus.do_shift.Goals as goal

pub move_phase-requires-clause-processor : goal.move_phase-requires-clause-processor
move_phase-requires-clause-processor c =
    among c.args.k c.args.self.now c.prepare.new.self _ c.prepare.ensures (prepared_length c.args.e c.args.k c.args.self.now) c.requires.processor

pub move_phase-requires-clause-ready : goal.move_phase-requires-clause-ready
move_phase-requires-clause-ready c p at = c.requires.ready p (ap (λ (s : System). slice_get s.processors c.args.k) (sym c.prepare.ensures) ∙ at)

pub returns : goal.returns
returns c = λ goal. c.move_phase.ensures goal ∙ ap (change (own_step goal c.args.e) c.args.k) c.prepare.ensures
