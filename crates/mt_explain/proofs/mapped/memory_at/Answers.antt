use Rattle.std.proofs.Common.{sym, arith}
use Rattle.mt_explain.proofs.Ranges.{is_next, past_all}
use Rattle.mt_explain.proofs.mapped.memory_at.Goals as goal

pub returns-then-page-range : goal.returns-then-page-range
returns-then-page-range c =
    let next = is_next 0 c.args.page c.args.ranges.now c.in-Some.range c.requires (sym c.in-Some.ensures) in
    sym (next.before c.args.page (omega arith) c.if-page-range.true)

pub returns-else-page-range : goal.returns-else-page-range
returns-else-page-range c =
    let next = is_next 0 c.args.page c.args.ranges.now c.in-Some.range c.requires (sym c.in-Some.ensures) in
    sym (next.inside c.args.page (omega arith) (omega (arith, c.if-page-range.false)) next.end)

pub returns-in-None : goal.returns-in-None
returns-in-None c = sym (past_all 0 c.args.page c.args.page c.args.ranges.now c.requires (omega arith) (sym c.in-None.ensures))
