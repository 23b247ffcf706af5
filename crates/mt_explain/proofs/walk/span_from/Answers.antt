use Rattle.std.proofs.Common.{◌≡◌, ◌∙◌, ◌+◌, ◌-◌, sym, ap, arith}
use Rattle.mt_explain.proofs.Grown.{both_have}
use Rattle.mt_explain.proofs.walk.span_from.Goals as goal
use Rattle.mt_explain.proofs.walk.span_from.Goals.{else-loop-end-test, then-loop-end-test+then-not-has}

pub loop-end-init : goal.loop-end-init
loop-end-init g c =
    let edge = c.next_edge-end.ensures in
    record {
      above = edge.above;
      bound = edge.bound;
      same = λ page low high. edge.same page low high ∙ c.requires.marked;
    }

pub loop-end-preserved : goal.loop-end-preserved
loop-end-preserved g c =
    let inv = c.loop-end.invariant in
    let edge = c.next_edge-end-in-loop-end.ensures in
    let mark = c.has.ensures.0 c.if-not-has.false in
    record {
      above = omega (arith, inv.above, edge.above);
      bound = edge.bound;
      same = both_have _ c.args.first c.loop-end.end c.next_edge-end-in-loop-end.result _ inv.same (λ page low high. edge.same page low high ∙ mark);
    }

pub returns-clause-longest : goal.returns-clause-longest
returns-clause-longest g c =
    let inv = c.loop-end.invariant in
    let end : c.args.first + (c.loop-end.end - c.args.first) ≡ c.loop-end.end = omega (arith, inv.above) in
    record {
      pages = λ page low high. inv.same page low (omega (arith, high));
      behind = λ below same. elim c.loop-end-test.branch [
        | else-loop-end-test w ↦ absurd (omega (arith, below, c.pages-pages.ensures))
        | then-loop-end-test+then-not-has w ↦ absurd (cc (w.has.ensures.1 (ap (g.M.Marked.marks c.args.m.now) (sym end) ∙ same), w.if-not-has.true))
      ];
    }
