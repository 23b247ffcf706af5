use Rattle.std.proofs.Common.{◌≡◌, drop}
use Rattle.std.specs.List.{fold}
use Rattle.mt_judge.specs.Rows.{state_behind}
use Rattle.mt_judge.proofs.picture.rows.end_of.Given as goal

abbrev pub invariant-loop-line : goal.invariant-loop-line
invariant-loop-line l = fold (state_behind l.case) l.state (drop l.line-index l.told) ≡ fold (state_behind l.case) l.start l.told
