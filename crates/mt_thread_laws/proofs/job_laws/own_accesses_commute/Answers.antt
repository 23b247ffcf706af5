use Rattle.mt_private.proofs.Own.Owners.{commute}
use Rattle.mt_thread_laws.proofs.job_laws.own_accesses_commute.Goals as goal

pub returns : goal.returns
returns c = commute
