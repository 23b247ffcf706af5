use Rattle.mt_gran.proofs.RoundedFit.{needs_is_least, one_least, used_is_least}
use Rattle.mt_types_laws.proofs.gran_laws.each_size_has_one_least_number.Goals as goal

pub returns-clause-one : goal.returns-clause-one
returns-clause-one c = one_least

pub returns-clause-used : goal.returns-clause-used
returns-clause-used c = used_is_least

pub returns-clause-needs : goal.returns-clause-needs
returns-clause-needs c = needs_is_least
