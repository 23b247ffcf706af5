use Rattle.mt_memory.proofs.Paged.{pages_are_of_kinds}
use Rattle.mt_memory.proofs.laws.pages_are_of_kinds.Goals as goal

pub returns : goal.returns
returns c = pages_are_of_kinds
