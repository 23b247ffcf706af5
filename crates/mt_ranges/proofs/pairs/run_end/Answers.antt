use Rattle.std.proofs.Common.{◌≤◌, arith}
use Rattle.mt_ranges.proofs.Powers.{log_le}
use Rattle.mt_ranges.proofs.Missing.{ones_of_missing, no_ones}
use Rattle.mt_ranges.proofs.pairs.run_end.Goals as goal

pub power-requires-2 : goal.power-requires-2
power-requires-2 c =
    let order : c.ilog2-k.result ≤ c.args.count = log_le c.ilog2-k.result c.args.count (omega (arith, c.ilog2-k.ensures.power_le, c.power.ensures)) in
    omega arith

pub returns-then-missing-power-clause-found : goal.returns-then-missing-power-clause-found
returns-then-missing-power-clause-found c =
    ones_of_missing c.args.count c.args.part c.ilog2-k.result c.requires.fits (omega (arith, c.if-missing-power.true, c.power.ensures, c.power-2.ensures))

pub returns-else-missing-power-clause-absent : goal.returns-else-missing-power-clause-absent
returns-else-missing-power-clause-absent c k order is =
    no_ones c.args.count c.args.part c.ilog2-k.result k
    (omega (arith, c.ilog2-k.ensures.power_le, c.power.ensures))
    (omega (arith, c.ilog2-k.ensures.next_power_gt, c.power.ensures))
    (λ same. c.if-missing-power.false (omega (arith, same, c.power.ensures, c.power-2.ensures)))
    order is
