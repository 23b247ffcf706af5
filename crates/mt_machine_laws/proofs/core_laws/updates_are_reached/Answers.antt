use Rattle.mt_core.proofs.Reaching.{turns_end, updates_are_reached}
use Rattle.mt_machine_laws.proofs.core_laws.updates_are_reached.Goals as goal

pub returns-clause-ends : goal.returns-clause-ends
returns-clause-ends c = turns_end

pub returns-clause-reached : goal.returns-clause-reached
returns-clause-reached c = updates_are_reached
