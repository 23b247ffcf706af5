use Rattle.mt_replay.proofs.Heads.{in_turn}
use Rattle.mt_replay_laws.proofs.statuses.dumps_are_shown_in_turn.Goals as goal

pub returns : goal.returns
returns c = in_turn
