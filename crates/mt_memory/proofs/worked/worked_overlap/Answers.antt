use Rattle.std.proofs.Common.{refl}
use Rattle.mt_memory.specs.Showing.{e820, told_in}
use Rattle.mt_memory.proofs.worked.worked_overlap.Goals as goal

pub returns : goal.returns
unfolding e820 told_in
returns c = refl
