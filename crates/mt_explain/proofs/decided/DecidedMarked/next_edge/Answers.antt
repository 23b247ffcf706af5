use Rattle.std.proofs.Common.{◌∙◌, Some, sym, ap, arith}
use Rattle.mt_explain.specs.declared.decider.Decider.{Decider}
use Rattle.mt_explain.proofs.Walked.{from_first}
use Rattle.mt_explain.proofs.decided.DecidedMarked.next_edge.Goals as goal

pub returns-else-page-self-clause-same : goal.returns-else-page-self-clause-same
returns-else-page-self-clause-same c = λ other low high.
    let f = c.args.self.now.file.now in
    let first = c.args.self.now.first in
    let above = c.if-page-self.false in
    from_first f first other (omega (arith, above, low)) ∙ ap (λ (d : Decider). Some d) (c.decider_edge.ensures.same other low high)
    ∙ sym (from_first f first c.args.page (omega (arith, above)))
