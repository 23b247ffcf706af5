use Rattle.mt_bus.proofs.Changed.{processor_of}
use Rattle.mt_bus.proofs.Stepping.{unprepared}
use Rattle.mt_bus.proofs.bus.Bus.prepare.Goals as goal

pub returns-in_default : goal.returns-in_default
returns-in_default c =
    let here = processor_of c.args.self.now.processors c.args.k c.requires.processor in
    unprepared c.args.e here.0.phase c.args.k c.args.self.now c.in_default.not-Take (c.requires.shift here.0 here.1)
