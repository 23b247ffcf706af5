use Rattle.mt_laws.proofs.Invariant.Coming.{reset_stays_fresh}
use Rattle.mt_laws.proofs.Invariant.Going.{gone_stays_fresh}
use Rattle.mt_machine_laws.proofs.run_laws.coming_and_going.comers_and_goers_stay_fresh.Goals as goal

pub returns-clause-come : goal.returns-clause-come
returns-clause-come c = reset_stays_fresh

pub returns-clause-gone : goal.returns-clause-gone
returns-clause-gone c = gone_stays_fresh
