use Rattle.mt_regs.proofs.FirstOnes.{is_first_difference}
use Rattle.mt_regs.proofs.agreement.a_first_difference_is_the_least.Goals as goal

pub returns : goal.returns
returns c = is_first_difference
