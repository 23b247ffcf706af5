-- The first fault as a function is the first fault, as mt_regs proves it.
pub use Rattle.mt_regs.proofs.FirstFault.{first_fault_is_first, is_first_fault}
