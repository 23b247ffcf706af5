use Rattle.std.proofs.Common.{refl}
use Rattle.mt_memory.specs.Showing.{e820, iomem}
use Rattle.mt_memory.proofs.worked.worked_faults.Goals as goal

pub returns-clause-backward : goal.returns-clause-backward
unfolding e820
returns-clause-backward c = refl

pub returns-clause-half_open : goal.returns-clause-half_open
unfolding e820
returns-clause-half_open c = refl

pub returns-clause-hidden : goal.returns-clause-hidden
unfolding iomem
returns-clause-hidden c = refl

pub returns-clause-unknown : goal.returns-clause-unknown
unfolding e820
returns-clause-unknown c = refl

pub returns-clause-empty : goal.returns-clause-empty
unfolding e820
returns-clause-empty c = refl

pub returns-clause-wide : goal.returns-clause-wide
unfolding iomem
returns-clause-wide c = refl
