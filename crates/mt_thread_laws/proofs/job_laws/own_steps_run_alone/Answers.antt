use Rattle.mt_private.proofs.Own.Owners.{steps_alone}
use Rattle.mt_thread_laws.proofs.job_laws.own_steps_run_alone.Goals as goal

pub returns : goal.returns
returns c pages k goal e s memory owner on = steps_alone pages k s memory owner goal e on
