use Rattle.std.proofs.Common.{List, ◌++◌}
use Rattle.mt_explain.specs.declared.difference.Difference.{Difference}
use Rattle.mt_explain.specs.Differences.{AreDifferencesFrom}
use Rattle.mt_explain.proofs.registers.differences.Given as goal

abbrev pub invariant-loop-msr : goal.invariant-loop-msr
invariant-loop-msr l = (ds : List Difference) → AreDifferencesFrom l.old l.new l.msr ds → AreDifferencesFrom l.old l.new 0 (l.list.items ++ ds)
