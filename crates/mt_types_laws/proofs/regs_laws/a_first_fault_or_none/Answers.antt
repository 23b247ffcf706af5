use Rattle.mt_regs.proofs.Decided.{a_first_fault_or_none_lem}
use Rattle.mt_types_laws.proofs.regs_laws.a_first_fault_or_none.Goals as goal

pub returns : goal.returns
returns c = a_first_fault_or_none_lem
