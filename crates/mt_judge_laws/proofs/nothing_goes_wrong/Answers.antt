use Rattle.mt_judge_laws.proofs.Starting.{none_goes_wrong}
use Rattle.mt_judge_laws.proofs.nothing_goes_wrong.Goals as goal

pub returns : goal.returns
returns c = none_goes_wrong c.has_wrong_if_a_sense_holds.ensures
