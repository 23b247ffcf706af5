use Rattle.mt_judge_laws.proofs.Ordering.{orderly_are_machines, orderly_are_right, orderly_have_no_fault}
use Rattle.mt_judge_laws.proofs.orderly_runs_are_right.Goals as goal

pub returns-clause-machines : goal.returns-clause-machines
returns-clause-machines c = orderly_are_machines c.has_wrong_if_a_sense_holds.ensures

pub returns-clause-right : goal.returns-clause-right
returns-clause-right c = orderly_are_right c.has_wrong_if_a_sense_holds.ensures

pub returns-clause-steps : goal.returns-clause-steps
returns-clause-steps c = orderly_have_no_fault c.has_wrong_if_a_sense_holds.ensures
