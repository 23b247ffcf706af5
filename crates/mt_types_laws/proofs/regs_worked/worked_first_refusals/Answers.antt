use Rattle.std.proofs.Common.{◌∷◌, []}
use Rattle.mt_regs.specs.declared.registers.Register.TheVariants.{DefaultType}
use Rattle.mt_regs.specs.RegisterFile.{blank_file}
use Rattle.mt_regs.specs.Registers.{with_value}
use Rattle.mt_regs.proofs.FirstOnes.{is_first_refusal}
use Rattle.mt_types_laws.proofs.regs_worked.worked_first_refusals.Goals as goal

pub returns-clause-first : goal.returns-clause-first
returns-clause-first c = is_first_refusal (blank_file 36 0x400 ∷ with_value (blank_file 36 0x400) DefaultType 0x802 ∷ [])
