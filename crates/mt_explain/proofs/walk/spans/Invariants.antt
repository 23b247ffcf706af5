use Rattle.std.proofs.Common.{◌-◌}
use Rattle.mt_explain.proofs.Grown.{IsGrown}
use Rattle.mt_explain.proofs.walk.spans.Given as goal

abbrev pub invariant-loop-page : goal.invariant-loop-page
invariant-loop-page g l = IsGrown (g.M.Marked.marks l.m) (g.M.Marked.size l.m) l.list.items l.page

abbrev pub decreases-loop-page : goal.decreases-loop-page
decreases-loop-page g l = l.pages - l.page
