use Rattle.mt_private.proofs.Own.Owners.{runs_alone}
use Rattle.mt_thread_laws.proofs.job_laws.own_accesses_run_alone.Goals as goal

pub returns : goal.returns
returns c pages k ops s memory owner = runs_alone pages k s memory owner ops
