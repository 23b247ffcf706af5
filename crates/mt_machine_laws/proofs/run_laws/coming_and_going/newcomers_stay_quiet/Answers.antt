use Rattle.mt_laws.proofs.Invariant.Coming.{reset_stays_quiet, reset_stays_sound}
use Rattle.mt_machine_laws.proofs.run_laws.coming_and_going.newcomers_stay_quiet.Goals as goal

pub returns-clause-sound : goal.returns-clause-sound
returns-clause-sound c = reset_stays_sound

pub returns-clause-quiet : goal.returns-clause-quiet
returns-clause-quiet c = reset_stays_quiet
