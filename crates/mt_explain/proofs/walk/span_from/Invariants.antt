use Rattle.std.proofs.Common.{◌-◌, ◌<◌, ◌≤◌, Some}
use Rattle.mt_explain.specs.Spans.{HaveMark}
use Rattle.mt_explain.proofs.walk.span_from.Given as goal

abbrev pub invariant-loop-end : goal.invariant-loop-end
invariant-loop-end g l = record {
  above : l.first < l.end;
  bound : l.end ≤ g.M.Marked.size l.m;
  same : HaveMark (g.M.Marked.marks l.m) l.first l.end (Some l.mark);
}

abbrev pub decreases-loop-end : goal.decreases-loop-end
decreases-loop-end g l = l.pages - l.end
