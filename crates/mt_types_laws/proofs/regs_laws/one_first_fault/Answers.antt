use Rattle.mt_regs.proofs.First.{one_first_fault_lem}
use Rattle.mt_types_laws.proofs.regs_laws.one_first_fault.Goals as goal

pub returns : goal.returns
returns c = one_first_fault_lem
