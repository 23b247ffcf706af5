use Rattle.mt_replay_laws.proofs.Hiding.Lines.{scripts_hide_caches}
use Rattle.mt_replay_laws.proofs.hidden.caches_are_never_seen_in_scripts.Goals as goal

pub returns : goal.returns
returns c = scripts_hide_caches
