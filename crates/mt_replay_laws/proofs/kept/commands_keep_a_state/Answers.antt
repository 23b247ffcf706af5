use Rattle.mt_replay.proofs.Keeping.States.{state_kept}
use Rattle.mt_replay_laws.proofs.kept.commands_keep_a_state.Goals as goal

pub returns : goal.returns
returns c = state_kept
