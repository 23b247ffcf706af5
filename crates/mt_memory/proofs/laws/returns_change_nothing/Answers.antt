use Rattle.mt_memory.proofs.Spare.{returns_nothing}
use Rattle.mt_memory.proofs.laws.returns_change_nothing.Goals as goal

pub returns : goal.returns
returns c = returns_nothing
