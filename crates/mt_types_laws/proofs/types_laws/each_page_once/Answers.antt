use Rattle.mt_types.proofs.Once.{some_run, one_run}
use Rattle.mt_types_laws.proofs.types_laws.each_page_once.Goals as goal

pub returns-clause-some : goal.returns-clause-some
returns-clause-some c = some_run

pub returns-clause-one : goal.returns-clause-one
returns-clause-one c = one_run
