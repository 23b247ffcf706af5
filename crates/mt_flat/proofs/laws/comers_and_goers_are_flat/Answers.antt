use Rattle.mt_flat.proofs.ComingAndGoing.{admitted_is_flat, gone_keeps_flat, newcomers_keep_flat}
use Rattle.mt_flat.proofs.laws.comers_and_goers_are_flat.Goals as goal

pub returns-clause-come : goal.returns-clause-come
returns-clause-come c = newcomers_keep_flat

pub returns-clause-admitted : goal.returns-clause-admitted
returns-clause-admitted c = admitted_is_flat

pub returns-clause-gone : goal.returns-clause-gone
returns-clause-gone c = gone_keeps_flat
