use Rattle.std.proofs.Common.{◌≡◌, ◌-◌}
use Rattle.mt_gran.specs.Sizes.{log_among}
use Rattle.mt_gran.proofs.sizes.log_among.Given as goal

abbrev pub invariant-loop-log : goal.invariant-loop-log
invariant-loop-log l = log_among l.size 0 29 ≡ log_among l.size l.log (29 - l.log)
