use Rattle.mt_replay_laws.proofs.Refusals.Releases.{released_states_settle}
use Rattle.mt_replay_laws.proofs.statuses.released_states_settle.Goals as goal

pub returns : goal.returns
returns c = released_states_settle
