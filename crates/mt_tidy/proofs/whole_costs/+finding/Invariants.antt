use Rattle.std.proofs.Common.{◌+◌, ◌*◌}
use Rattle.mt_tidy.proofs.whole_costs.+finding.Given as goal

abbrev pub decreases-find_halves : goal.decreases-find_halves
decreases-find_halves l = 2 * l.b.now.log

abbrev pub decreases-find_costs : goal.decreases-find_costs
decreases-find_costs l = 2 * l.b.now.log + 1
