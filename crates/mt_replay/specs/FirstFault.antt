-- The first fault of a register file as a function, as mt_regs defines it.
pub use Rattle.mt_regs.specs.FirstFault.{first_fault}
