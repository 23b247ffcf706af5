use Rattle.mt_replay_laws.proofs.ShownDump.{states_have_the_shown_dump}
use Rattle.mt_replay_laws.proofs.statuses.states_have_the_shown_dump.Goals as goal

pub returns : goal.returns
returns c = states_have_the_shown_dump
