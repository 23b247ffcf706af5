use Rattle.std.proofs.Common.{◌∙◌, ◌-◌, sym, arith}
use Rattle.std.proofs.Math.Nat.{min-le_left}
use Rattle.mt_explain.proofs.Ranges.{is_next, past_all}
use Rattle.mt_explain.proofs.mapped.memory_edge.Goals as goal

pub returns-then-page-range-clause-same : goal.returns-then-page-range-clause-same
returns-then-page-range-clause-same c = λ other low high.
    let next = is_next 0 c.args.page c.args.ranges.now c.in-Some.range c.requires.order (sym c.in-Some.ensures) in
    let within = min-le_left c.in-Some.range.first c.args.end in
    next.before other low (omega (arith, high, within, c.min.ensures)) ∙ sym (next.before c.args.page (omega arith) c.if-page-range.true)

pub returns-else-page-range-clause-above : goal.returns-else-page-range-clause-above
returns-else-page-range-clause-above c =
    let next = is_next 0 c.args.page c.args.ranges.now c.in-Some.range c.requires.order (sym c.in-Some.ensures) in
    grind (arith, next.end, c.requires.page, c.min-else-page-range.ensures)

pub returns-else-page-range-clause-same : goal.returns-else-page-range-clause-same
returns-else-page-range-clause-same c = λ other low high.
    let next = is_next 0 c.args.page c.args.ranges.now c.in-Some.range c.requires.order (sym c.in-Some.ensures) in
    let within = min-le_left c.in-Some.range.last (c.args.end - 1) in
    next.inside other low (omega (arith, low, c.if-page-range.false)) (omega (arith, high, within, c.min-else-page-range.ensures))
    ∙ sym (next.inside c.args.page (omega arith) (omega (arith, c.if-page-range.false)) next.end)

pub returns-in-None-clause-same : goal.returns-in-None-clause-same
returns-in-None-clause-same c = λ other low high.
    past_all 0 c.args.page other c.args.ranges.now c.requires.order low (sym c.in-None.ensures)
    ∙ sym (past_all 0 c.args.page c.args.page c.args.ranges.now c.requires.order (omega arith) (sym c.in-None.ensures))
