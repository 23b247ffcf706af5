use Rattle.std.proofs.Common.{refl}
use Rattle.mt_memory.proofs.worked.worked_pages.Goals as goal

pub returns : goal.returns
returns c = refl
