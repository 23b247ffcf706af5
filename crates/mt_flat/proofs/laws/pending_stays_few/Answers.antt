use Rattle.mt_flat.proofs.Updating.{pending_stays_few}
use Rattle.mt_flat.proofs.laws.pending_stays_few.Goals as goal

pub returns : goal.returns
returns c = pending_stays_few
