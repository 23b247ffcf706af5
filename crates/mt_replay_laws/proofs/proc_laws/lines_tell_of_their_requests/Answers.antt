use Rattle.mt_replay_laws.proofs.Folds.{lines_tell}
use Rattle.mt_replay_laws.proofs.proc_laws.lines_tell_of_their_requests.Goals as goal

pub returns : goal.returns
returns c = lines_tell
