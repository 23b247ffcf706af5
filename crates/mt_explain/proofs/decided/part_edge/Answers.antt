use Rattle.std.proofs.Common.{◌∙◌, ◌<◌, sym, arith}
use Rattle.std.proofs.Math.Nat.{min-le_left}
use Rattle.mt_explain.proofs.Ranges.{less}
use Rattle.mt_explain.proofs.decided.part_edge.Goals as goal

pub returns-then-page-lt256-clause-part : goal.returns-then-page-lt256-clause-part
returns-then-page-lt256-clause-part c = λ page low high.
    let end = c.fixed_end.ensures in
    let within : page < c.fixed_end.result = omega (arith, high, c.min.ensures, min-le_left c.fixed_end.result c.args.end) in (
      less page 256 (omega (arith, within, end.low)) ∙ sym (less c.args.page 256 c.if-page-lt256.true),
      λ fixed. end.same page low within,
    )
