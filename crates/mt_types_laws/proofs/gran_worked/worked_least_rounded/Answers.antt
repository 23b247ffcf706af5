use Rattle.mt_types_laws.proofs.WorkedRounded.{least, needs_more, not_one}
use Rattle.mt_types_laws.proofs.gran_worked.worked_least_rounded.Goals as goal

pub returns-clause-least : goal.returns-clause-least
returns-clause-least c = least

pub returns-clause-more_than_least : goal.returns-clause-more_than_least
returns-clause-more_than_least c = not_one

pub returns-clause-too_few : goal.returns-clause-too_few
returns-clause-too_few c = needs_more
