use Rattle.mt_types_laws.proofs.WorkedFile.{all_uncacheable}
use Rattle.mt_types_laws.proofs.gran_worked.worked_grained.Goals as goal

pub returns : goal.returns
returns c = all_uncacheable
