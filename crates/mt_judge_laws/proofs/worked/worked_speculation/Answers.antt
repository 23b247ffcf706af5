use Rattle.std.proofs.Common.{false}
use Rattle.mt_judge_laws.specs.WorkedManual.{two_lists, two_started}
use Rattle.mt_judge_laws.proofs.OnWorked.{manual_alone, none_alone, right_alone, two_manual, two_right}
use Rattle.mt_judge_laws.proofs.worked.worked_speculation.Goals as goal

pub returns-clause-start : goal.returns-clause-start
returns-clause-start c = right_alone false two_lists two_started none_alone.0 two_right

pub returns-clause-manual : goal.returns-clause-manual
returns-clause-manual c = manual_alone false two_lists two_started two_manual
