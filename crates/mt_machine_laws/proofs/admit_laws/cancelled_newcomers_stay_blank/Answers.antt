use Rattle.mt_machine_laws.proofs.GivingUp.{cancelled_newcomers_stay_blank}
use Rattle.mt_machine_laws.proofs.admit_laws.cancelled_newcomers_stay_blank.Goals as goal

pub returns : goal.returns
returns c = cancelled_newcomers_stay_blank
