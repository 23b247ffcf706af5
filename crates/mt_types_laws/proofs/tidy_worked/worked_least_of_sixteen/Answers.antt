use Rattle.mt_types_laws.proofs.WorkedSmall.{cost_three, cost_two, least_two, wanted}
use Rattle.mt_types_laws.proofs.tidy_worked.worked_least_of_sixteen.Goals as goal

pub returns-clause-wanted : goal.returns-clause-wanted
returns-clause-wanted c = wanted

pub returns-clause-cost : goal.returns-clause-cost
returns-clause-cost c = cost_two

pub returns-clause-cost_apart : goal.returns-clause-cost_apart
returns-clause-cost_apart c = cost_three

pub returns-clause-least : goal.returns-clause-least
returns-clause-least c = least_two
