use Rattle.mt_laws.proofs.Invariant.Going.{gone_stays_quiet, gone_stays_sound}
use Rattle.mt_machine_laws.proofs.run_laws.coming_and_going.goers_stay_quiet.Goals as goal

pub returns-clause-sound : goal.returns-clause-sound
returns-clause-sound c = gone_stays_sound

pub returns-clause-quiet : goal.returns-clause-quiet
returns-clause-quiet c = gone_stays_quiet
