use Rattle.mt_laws.proofs.Barrier.Takes.{take_fences}
use Rattle.mt_laws.proofs.Barrier.Still.{still_keeps}
use Rattle.mt_machine_laws.proofs.run_laws.kept.events_keep.Goals as goal

pub returns-clause-take : goal.returns-clause-take
returns-clause-take c = take_fences

pub returns-clause-still : goal.returns-clause-still
returns-clause-still c = still_keeps
