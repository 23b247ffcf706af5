use Rattle.mt_replay_laws.proofs.Fresh.{nothing_stale}
use Rattle.mt_replay_laws.proofs.kept.nothing_is_stale_in_scripts.Goals as goal

pub returns : goal.returns
returns c = nothing_stale
