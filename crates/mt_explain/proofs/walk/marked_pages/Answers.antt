use Rattle.std.proofs.Common.{◌≡◌, ◌+◌, ◌-◌, ◌∙◌, Bool, true, false, ap, sym, arith}
use Rattle.std.specs.Prelude.{if◌then◌else◌, is_some}
use Rattle.mt_explain.specs.Spans.{marked_pages}
use Rattle.mt_explain.proofs.Marks.{marked_on, none_marked}
use Rattle.mt_explain.proofs.walk.marked_pages.Goals as goal

pub loop-page-init : goal.loop-page-init
loop-page-init g c = record { bound = omega arith; counted = sym (none_marked (g.M.Marked.marks c.args.m.now)); few = omega arith }

pub loop-page-preserved-then-is_some : goal.loop-page-preserved-then-is_some
loop-page-preserved-then-is_some g c =
    let inv = c.loop-page.invariant in
    let edge = c.next_edge-end.ensures in
    let marks = g.M.Marked.marks c.args.m.now in
    let page = c.loop-page.page in
    let end = c.next_edge-end.result in
    let some : is_some (marks page) ≡ true = cc (c.mark_at.ensures, c.if-is_some.ensures) in
    record {
      bound = edge.bound;
      counted = ap (λ n. n + (end - page)) inv.counted ∙ sym (marked_on marks page end edge.above edge.same ∙ ap (λ (b : Bool). marked_pages marks page + (if b then end - page else 0)) some);
      few = omega (arith, inv.few, edge.above);
    }

pub loop-page-preserved : goal.loop-page-preserved
loop-page-preserved g c =
    let inv = c.loop-page.invariant in
    let edge = c.next_edge-end.ensures in
    let marks = g.M.Marked.marks c.args.m.now in
    let page = c.loop-page.page in
    let end = c.next_edge-end.result in
    let none : is_some (marks page) ≡ false = cc (c.mark_at.ensures, c.if-is_some.ensures) in
    let counted = marked_on marks page end edge.above edge.same ∙ ap (λ (b : Bool). marked_pages marks page + (if b then end - page else 0)) none in
    record {
      bound = edge.bound;
      counted = inv.counted ∙ omega (arith, counted);
      few = omega (arith, inv.few, edge.above);
    }
