use Rattle.mt_gran.proofs.RoundedFit.{no_second_loss, no_second_parts}
use Rattle.mt_types_laws.proofs.gran_laws.a_second_rounding_loses_nothing.Goals as goal

pub returns-clause-parts : goal.returns-clause-parts
returns-clause-parts c = no_second_parts

pub returns-clause-lost : goal.returns-clause-lost
returns-clause-lost c = no_second_loss
