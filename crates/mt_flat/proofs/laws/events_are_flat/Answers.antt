use Rattle.mt_flat.proofs.Seeing.{events_keep_flat, runs_keep_flat}
use Rattle.mt_flat.proofs.laws.events_are_flat.Goals as goal

pub returns-clause-event : goal.returns-clause-event
returns-clause-event c = events_keep_flat

pub returns-clause-run : goal.returns-clause-run
returns-clause-run c = runs_keep_flat
