use Rattle.mt_replay.proofs.FirstFault.{first_fault_is_first}
use Rattle.mt_replay_laws.proofs.replay_laws.the_first_fault_is_first.Goals as goal

pub returns : goal.returns
returns c = first_fault_is_first
