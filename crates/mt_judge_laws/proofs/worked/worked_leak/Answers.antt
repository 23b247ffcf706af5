use Rattle.std.proofs.Common.{refl, rules, true}
use Rattle.mt_search.specs.Wrongs.{disagree}
use Rattle.mt_judge_laws.specs.WorkedManual.{one_list, one_started}
use Rattle.mt_judge_laws.proofs.OnWorked.{manual_alone, none_alone, one_manual, one_right, right_alone}
use Rattle.mt_judge_laws.proofs.worked.worked_leak.Goals as goal

pub returns-clause-start : goal.returns-clause-start
returns-clause-start c = right_alone true one_list one_started none_alone.1 one_right

pub returns-clause-manual : goal.returns-clause-manual
returns-clause-manual c = manual_alone true one_list one_started one_manual

pub returns-clause-runs : goal.returns-clause-runs
returns-clause-runs c = search rules

pub returns-clause-wrong : goal.returns-clause-wrong
unfolding disagree
returns-clause-wrong c = refl
