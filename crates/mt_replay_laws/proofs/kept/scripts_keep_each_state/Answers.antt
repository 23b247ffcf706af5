use Rattle.mt_replay_laws.proofs.Whole.{scripts_keep}
use Rattle.mt_replay_laws.proofs.kept.scripts_keep_each_state.Goals as goal

pub returns : goal.returns
returns c = scripts_keep
