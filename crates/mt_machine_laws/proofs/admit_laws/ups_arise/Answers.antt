use Rattle.mt_admit.proofs.Calling.{ups_arise}
use Rattle.mt_machine_laws.proofs.admit_laws.ups_arise.Goals as goal

pub returns : goal.returns
returns c = ups_arise
