use Rattle.mt_types_laws.proofs.tidy_laws.cost_is_least.Goals as goal
use Rattle.mt_tidy.proofs.WholeCost.{cost_is_least}

pub returns : goal.returns
returns c = cost_is_least
