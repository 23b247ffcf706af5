use Rattle.std.proofs.Common.{◌≡◌, ◌≤◌, ◌-◌}
use Rattle.mt_mend.specs.Nearest.{nearest_ones}
use Rattle.mt_mend.proofs.repair.nearest_ones.Given as goal

abbrev pub invariant-loop-ones : goal.invariant-loop-ones
invariant-loop-ones l = record {
  nearest : l.nearest ≡ nearest_ones l.count l.field (l.ones - 1);
  some : 1 ≤ l.nearest;
  few : l.nearest ≤ l.count;
  first : 1 ≤ l.ones;
}
