use Rattle.mt_replay_laws.proofs.SameFiles.{same_file}
use Rattle.mt_replay_laws.proofs.replay_laws.same_files_are_equal.Goals as goal

pub returns : goal.returns
returns c = same_file
