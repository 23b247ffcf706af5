use Rattle.mt_tidy.proofs.Own.{least_number, one_least}
use Rattle.mt_types_laws.proofs.tidy_laws.each_file_has_one_least_number.Goals as goal

pub returns-clause-some : goal.returns-clause-some
returns-clause-some c = least_number

pub returns-clause-one : goal.returns-clause-one
returns-clause-one c = one_least
