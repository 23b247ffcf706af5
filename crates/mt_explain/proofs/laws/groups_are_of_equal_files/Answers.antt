use Rattle.mt_explain.proofs.Equal.{of_one_group, one_group}
use Rattle.mt_explain.proofs.Grouping.{groups_are_of_equal_files}
use Rattle.mt_explain.proofs.laws.groups_are_of_equal_files.Goals as goal

pub returns-clause-same : goal.returns-clause-same
returns-clause-same c = λ files i j a b first second. (of_one_group files i j a b first second, one_group files i j a b first second)

pub returns-clause-grouping : goal.returns-clause-grouping
returns-clause-grouping c = groups_are_of_equal_files
