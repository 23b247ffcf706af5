use Rattle.mt_replay.proofs.Eras.{eras_kept}
use Rattle.mt_replay_laws.proofs.kept.commands_finish_one_update.Goals as goal

pub returns : goal.returns
returns c = eras_kept
