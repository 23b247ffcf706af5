use Rattle.std.proofs.Common.{refl}
use Rattle.mt_thread_laws.specs.Worked.{marked}
use Rattle.mt_thread_laws.proofs.JobOnWorked.{first_owns, not_sharing}
use Rattle.mt_thread_laws.proofs.job_worked.worked_becomes.Goals as goal

pub returns-clause-becomes : goal.returns-clause-becomes
returns-clause-becomes c = record { own = refl; whole = refl; owner = first_owns marked.memory }

pub returns-clause-not_owned : goal.returns-clause-not_owned
returns-clause-not_owned c h = not_sharing h.owner
