use Rattle.mt_judge_laws.proofs.OnWorked.{first_is, not_empty, odd, second_is}
use Rattle.mt_judge_laws.proofs.worked.worked_manual_list.Goals as goal

pub returns-clause-first : goal.returns-clause-first
returns-clause-first c = first_is

pub returns-clause-second : goal.returns-clause-second
returns-clause-second c = second_is

pub returns-clause-other_steps : goal.returns-clause-other_steps
returns-clause-other_steps c = not_empty

pub returns-clause-odd_before : goal.returns-clause-odd_before
returns-clause-odd_before c h is = odd h.before is h.before_fit

pub returns-clause-odd_behind : goal.returns-clause-odd_behind
returns-clause-odd_behind c h is = odd h.behind is h.behind_fit
