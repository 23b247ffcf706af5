use Rattle.mt_private.proofs.Residents.Opened.{opened}
use Rattle.mt_private.proofs.Residents.Paths.{uncalled_reached}
use Rattle.mt_thread_laws.proofs.Residents.Unique.{one_machine}
use Rattle.mt_thread_laws.proofs.yard_laws.yard_is_reached.Goals as goal

pub returns-clause-reached : goal.returns-clause-reached
returns-clause-reached c key s m = uncalled_reached m.yard.resides.reached

pub returns-clause-start : goal.returns-clause-start
returns-clause-start c = opened

pub returns-clause-one : goal.returns-clause-one
returns-clause-one c = one_machine
