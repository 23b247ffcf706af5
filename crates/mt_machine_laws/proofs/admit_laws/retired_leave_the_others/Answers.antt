use Rattle.mt_machine_laws.proofs.GivingUp.{retired_leave_the_others}
use Rattle.mt_machine_laws.proofs.admit_laws.retired_leave_the_others.Goals as goal

pub returns : goal.returns
returns c = retired_leave_the_others
