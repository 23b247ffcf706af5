use Rattle.mt_types_laws.proofs.ReadBack.{used_by_fit, used_by_tidy}
use Rattle.mt_types_laws.proofs.tidy_laws.used_pairs_are_the_valid_ones.Goals as goal

pub returns-clause-wanted : goal.returns-clause-wanted
returns-clause-wanted c = used_by_fit

pub returns-clause-own : goal.returns-clause-own
returns-clause-own c = used_by_tidy
