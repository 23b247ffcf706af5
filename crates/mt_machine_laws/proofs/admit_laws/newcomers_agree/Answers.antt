use Rattle.mt_machine_laws.proofs.Agreeing.{newcomers_agree}
use Rattle.mt_machine_laws.proofs.admit_laws.newcomers_agree.Goals as goal

pub returns : goal.returns
returns c = newcomers_agree
