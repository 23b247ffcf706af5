use Rattle.mt_judge_laws.proofs.Starting.{searches_find}
use Rattle.mt_judge_laws.proofs.searches_find_nothing.Goals as goal

pub returns : goal.returns
returns c = searches_find c.has_wrong_if_a_sense_holds.ensures
