use Rattle.mt_judge_laws.proofs.Starting.{runs_are}
use Rattle.mt_judge_laws.proofs.runs_are_the_machines.Goals as goal

pub returns : goal.returns
returns c = runs_are c.has_wrong_if_a_sense_holds.ensures
