use Rattle.mt_laws.proofs.Invariant.Snooping.{snooping_stays_quiet, snooping_stays_sound}
use Rattle.mt_machine_laws.proofs.run_laws.starts.snooping_stays_quiet.Goals as goal

pub returns-clause-sound : goal.returns-clause-sound
returns-clause-sound c = snooping_stays_sound

pub returns-clause-quiet : goal.returns-clause-quiet
returns-clause-quiet c = snooping_stays_quiet
