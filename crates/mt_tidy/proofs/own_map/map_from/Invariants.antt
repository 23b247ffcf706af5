use Rattle.std.proofs.Common.{◌-◌}
use Rattle.mt_tidy.proofs.MapRuns.{IsUnderWay}
use Rattle.mt_tidy.proofs.own_map.map_from.Given as goal

abbrev pub invariant-loop-end : goal.invariant-loop-end
invariant-loop-end l = IsUnderWay l.f l.from l.runs l.count l.first l.end l.kind

abbrev pub decreases-loop-end : goal.decreases-loop-end
decreases-loop-end l = l.pages - l.end
