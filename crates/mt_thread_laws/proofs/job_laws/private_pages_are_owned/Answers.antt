use Rattle.mt_private.proofs.Own.Owners.{private_owner}
use Rattle.mt_thread_laws.proofs.job_laws.private_pages_are_owned.Goals as goal

pub returns : goal.returns
returns c = private_owner
