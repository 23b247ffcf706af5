use Rattle.mt_memory.proofs.Fewer.{pages_are_given}
use Rattle.mt_memory.proofs.laws.pages_are_given.Goals as goal

pub returns : goal.returns
returns c = pages_are_given
