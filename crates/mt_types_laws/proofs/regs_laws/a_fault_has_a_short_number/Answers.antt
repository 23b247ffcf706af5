use Rattle.mt_regs.proofs.FaultNumbers.{fault_number}
use Rattle.mt_types_laws.proofs.regs_laws.a_fault_has_a_short_number.Goals as goal

pub returns : goal.returns
returns c = fault_number
