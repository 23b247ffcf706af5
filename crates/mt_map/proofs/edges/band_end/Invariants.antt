use Rattle.std.proofs.Common.{◌-◌}
use Rattle.mt_map.specs.Bands.{IsBandOf}
use Rattle.mt_map.proofs.edges.band_end.Given as goal

abbrev pub invariant-loop-end : goal.invariant-loop-end
invariant-loop-end l = IsBandOf l.f l.others l.first l.end

abbrev pub decreases-loop-end : goal.decreases-loop-end
decreases-loop-end l = l.pages - l.end
