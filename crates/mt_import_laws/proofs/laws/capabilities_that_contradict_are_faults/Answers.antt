use Rattle.mt_import_laws.proofs.Capabilities.{capability_contradictions}
use Rattle.mt_import_laws.proofs.laws.capabilities_that_contradict_are_faults.Goals as goal

pub returns : goal.returns
returns c = capability_contradictions
