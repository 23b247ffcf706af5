use Rattle.std.proofs.Common.{◌≡◌, ◌++◌, drop, map}
use Rattle.mt_judge.specs.Rows.{held_line}
use Rattle.mt_judge.proofs.picture.rows.hold_lines.Given as goal

abbrev pub invariant-loop-line : goal.invariant-loop-line
invariant-loop-line l = l.held.items ++ map held_line (drop l.line-index l.lines) ≡ l.fn.held.items ++ map held_line l.lines
