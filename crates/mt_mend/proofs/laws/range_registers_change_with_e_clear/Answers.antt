use Rattle.mt_mend.proofs.Writing.{clear_within}
use Rattle.mt_mend.proofs.laws.range_registers_change_with_e_clear.Goals as goal

pub returns : goal.returns
returns c = clear_within
