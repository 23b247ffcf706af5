use Rattle.std.proofs.Common.{◌≤◌, ◌-◌}
use Rattle.mt_regs.specs.RegisterFile.{page_count}
use Rattle.mt_map.proofs.Walking.{ExtendsEdges}
use Rattle.mt_map.proofs.edges.cuts.Given as goal

abbrev pub invariant-loop-page : goal.invariant-loop-page
invariant-loop-page l = record {
  bound : l.page ≤ page_count l.f;
  edges : ExtendsEdges l.f l.others l.cuts.items l.page;
}

abbrev pub decreases-loop-page : goal.decreases-loop-page
decreases-loop-page l = l.pages - l.page
