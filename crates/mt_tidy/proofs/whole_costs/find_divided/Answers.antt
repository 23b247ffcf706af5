use Rattle.std.proofs.Common.{arith}
use Rattle.mt_tidy.specs.Cost.{task_by}
use Rattle.mt_tidy.proofs.Divisions.{held_bounded, held_halves, divided_costs}
use Rattle.mt_tidy.proofs.Sizes.{lower_bounded, upper_bounded}
use Rattle.mt_tidy.proofs.Wishes.{mixed_divides}
use Rattle.mt_tidy.proofs.whole_costs.find_divided.Goals as goal
use Rattle.mt_tidy.proofs.whole_costs.find_divided.Goals.{After-divide-divided}

pub overflow_sub-b : goal.overflow_sub-b
overflow_sub-b c = mixed_divides _ c.args.b.now.log c.args.b.now.first c.requires.halves.1.mixed

pub halves-halves-requires-clause-log : goal.halves-halves-requires-clause-log
halves-halves-requires-clause-log c = omega (arith, c.args.b.now.small, mixed_divides _ c.args.b.now.log c.args.b.now.first c.requires.halves.1.mixed)

pub halves-halves-requires-clause-lower : goal.halves-halves-requires-clause-lower
halves-halves-requires-clause-lower c = lower_bounded _ c.args.b.now.log c.args.b.now.first c.args.b.now.small c.args.table.now c.requires.halves.1

pub halves-halves-requires-clause-upper : goal.halves-halves-requires-clause-upper
halves-halves-requires-clause-upper c = upper_bounded _ c.args.b.now.log c.args.b.now.first c.args.b.now.small c.args.table.now c.requires.halves.1

pub divide-divided-requires-clause-bounded : goal.divide-divided-requires-clause-bounded
divide-divided-requires-clause-bounded c =
    held_bounded _ c.args.b.now.log c.args.b.now.first c.args.b.now.small c.args.table.now c.requires.halves.1 c.halves-halves.result c.halves-halves.ensures

pub returns-clause-found : goal.returns-clause-found
returns-clause-found c = λ runs holds.
    divided_costs (task_by c.args.rules.now runs) c.args.b.now.log c.args.b.now.first _ holds.mixed
    (c.divide-divided.ensures _ (held_halves _ c.args.b.now.log c.args.b.now.first c.args.b.now.small c.args.table.now holds c.halves-halves.result c.halves-halves.ensures) runs)

pub returns-clause-choice : goal.returns-clause-choice
returns-clause-choice c = λ runs holds.
    (c.divide-divided.ensures _ (held_halves _ c.args.b.now.log c.args.b.now.first c.args.b.now.small c.args.table.now holds c.halves-halves.result c.halves-halves.ensures) runs).choice
