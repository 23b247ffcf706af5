use Rattle.mt_regs.proofs.FirstOnes.{is_first_refusal}
use Rattle.mt_regs.proofs.agreement.a_first_refusal_is_the_least.Goals as goal

pub returns : goal.returns
returns c = is_first_refusal
