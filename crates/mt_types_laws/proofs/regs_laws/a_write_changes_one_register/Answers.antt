use Rattle.mt_regs.proofs.Writes.{changes_only}
use Rattle.mt_types_laws.proofs.regs_laws.a_write_changes_one_register.Goals as goal

pub returns : goal.returns
returns c = changes_only
