use Rattle.std.proofs.Common.{◌-◌}
use Rattle.mt_regs.specs.RegisterFile.{page_count}
use Rattle.mt_mend.specs.Wishes.{all_edges_past, wished_type}
use Rattle.mt_mend.proofs.Walking.{IsUnderWay}
use Rattle.mt_mend.proofs.wished.wished_runs.Given as goal

abbrev pub invariant-loop-end : goal.invariant-loop-end
invariant-loop-end l = IsUnderWay (wished_type l.f l.wishes) (page_count l.f) 281 (all_edges_past l.f l.wishes) l.runs l.count l.first l.end l.kind

abbrev pub decreases-loop-end : goal.decreases-loop-end
decreases-loop-end l = l.pages - l.end
