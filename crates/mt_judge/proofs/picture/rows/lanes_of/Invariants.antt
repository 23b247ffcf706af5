use Rattle.std.proofs.Common.{◌≡◌, ◌++◌, drop, map}
use Rattle.mt_judge.specs.Rows.{lane_of}
use Rattle.mt_judge.proofs.picture.rows.lanes_of.Given as goal

abbrev pub invariant-loop-cpu : goal.invariant-loop-cpu
invariant-loop-cpu l = l.lanes.items ++ map lane_of (drop l.cpu-index l.cpus) ≡ map lane_of l.cpus
