use Rattle.std.proofs.Common.{◌≡◌, ◌-◌, ◌≤◌}
use Rattle.mt_explain.specs.Spans.{marked_pages}
use Rattle.mt_explain.proofs.walk.marked_pages.Given as goal

abbrev pub invariant-loop-page : goal.invariant-loop-page
invariant-loop-page g l = record {
  bound : l.page ≤ g.M.Marked.size l.m;
  counted : l.marked ≡ marked_pages (g.M.Marked.marks l.m) l.page;
  few : l.marked ≤ l.page;
}

abbrev pub decreases-loop-page : goal.decreases-loop-page
decreases-loop-page g l = l.pages - l.page
