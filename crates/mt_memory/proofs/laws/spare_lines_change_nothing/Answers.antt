use Rattle.mt_memory.proofs.Spare.{spare_lines}
use Rattle.mt_memory.proofs.laws.spare_lines_change_nothing.Goals as goal

pub returns : goal.returns
returns c = spare_lines
