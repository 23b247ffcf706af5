use Rattle.std.proofs.Common.{◌+◌, ◌∙◌, List, sym, subst, arith}
use Rattle.mt_explain.specs.declared.span.Span.{Span}
use Rattle.mt_explain.proofs.Grown.{IsGrown, grown_next, grown_past}
use Rattle.mt_explain.proofs.walk.spans.Goals as goal

pub loop-page-preserved-in_default : goal.loop-page-preserved-in_default
loop-page-preserved-in_default g c =
    let edge = c.next_edge-page.ensures in
    grown_past _ _ c.loop-page.list.items c.loop-page.page c.next_edge-page.result c.loop-page.invariant edge.above edge.bound
    (λ page low high. edge.same page low high ∙ sym c.mark_at.ensures ∙ c.in_default.is)

pub loop-page-preserved : goal.loop-page-preserved
loop-page-preserved g c =
    let span = c.span_from-span.ensures in
    let P : List (Span g.row.M-Mark.Denot) → Type 0 = λ list. IsGrown (g.M.Marked.marks c.args.m.now) (g.M.Marked.size c.args.m.now) list (c.span_from-span.result.first + c.span_from-span.result.count) in
    subst P (sym c.in_ok-push.ensures.items)
    (grown_next _ _ c.loop-page.list.items c.span_from-span.result c.loop-page.page c.loop-page.invariant (omega (arith, c.pages-pages.ensures)) span.first span.some span.longest span.bound)
