use Rattle.mt_laws.proofs.Invariant.SoundSteps.{access_keeps_sound, control_keeps_sound, drain_keeps_sound}
use Rattle.mt_machine_laws.proofs.run_laws.kept.accesses_keep_sound.Goals as goal

pub returns-clause-access : goal.returns-clause-access
returns-clause-access c = access_keeps_sound

pub returns-clause-control : goal.returns-clause-control
returns-clause-control c = control_keeps_sound

pub returns-clause-drain : goal.returns-clause-drain
returns-clause-drain c = drain_keeps_sound
