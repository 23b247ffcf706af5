use Rattle.mt_memory.proofs.Spare.{spare_heads}
use Rattle.mt_memory.proofs.laws.spare_heads_change_nothing.Goals as goal

pub returns : goal.returns
returns c = spare_heads
