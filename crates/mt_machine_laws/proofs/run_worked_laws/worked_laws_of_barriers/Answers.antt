use Rattle.std.proofs.Common.{refl}
use Rattle.mt_machine_laws.specs.RunWorkedRuns.{pair_arrived, pair_order}
use Rattle.mt_machine_laws.proofs.run_worked_laws.worked_laws_of_barriers.Goals as goal

pub returns : goal.returns
returns c = λ law. (law pair_order pair_arrived.system.processors).0 refl
