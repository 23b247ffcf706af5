use Rattle.mt_memory.proofs.Joined.{joined_is_same}
use Rattle.mt_memory.proofs.laws.joined_ranges_give_the_same_kinds.Goals as goal

pub returns : goal.returns
returns c = joined_is_same
