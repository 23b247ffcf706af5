use Rattle.std.proofs.Common.{◌≡◌, ◌++◌, drop}
use Rattle.mt_judge.specs.Rows.{rows_behind, rows_of}
use Rattle.mt_judge.proofs.picture.rows.rows_of.Given as goal

abbrev pub invariant-loop-line : goal.invariant-loop-line
invariant-loop-line l = l.rows.items ++ rows_behind l.case l.state (drop l.line-index l.told) ≡ rows_of l.case l.start l.told
