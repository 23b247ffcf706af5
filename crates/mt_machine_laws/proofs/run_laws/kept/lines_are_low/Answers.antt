use Rattle.mt_laws.proofs.Registers.UnderWay.{lines_are_low}
use Rattle.mt_machine_laws.proofs.run_laws.kept.lines_are_low.Goals as goal

pub returns : goal.returns
returns c = lines_are_low
