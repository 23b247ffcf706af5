use Rattle.mt_memory.proofs.Laid.{later_counts}
use Rattle.mt_memory.proofs.laws.the_later_line_counts.Goals as goal

pub returns : goal.returns
returns c = later_counts
