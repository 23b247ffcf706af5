use Rattle.mt_thread_laws.proofs.Residents.Settles.{settles}
use Rattle.mt_thread_laws.proofs.yard_laws.yards_settle.Goals as goal

pub returns : goal.returns
returns c = settles
