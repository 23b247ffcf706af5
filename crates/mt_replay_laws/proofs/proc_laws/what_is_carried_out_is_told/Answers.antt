use Rattle.mt_replay_laws.proofs.Told.{else_stands, told_exactly}
use Rattle.mt_replay_laws.proofs.proc_laws.what_is_carried_out_is_told.Goals as goal

pub returns : goal.returns
returns c = record { told = told_exactly; stands = else_stands }
