use Rattle.mt_laws.proofs.Invariant.Standing.{stays_sound}
use Rattle.mt_machine_laws.proofs.run_laws.kept.stays_sound.Goals as goal

pub returns : goal.returns
returns c = stays_sound
