use Rattle.mt_private.proofs.Residents.Work.{accessed}
use Rattle.mt_thread_laws.proofs.yard_laws.accesses_go_on.Goals as goal

pub returns : goal.returns
returns c t all go first second s k y op n yard at runs fits = accessed t all go first second s yard k y at op runs fits n
