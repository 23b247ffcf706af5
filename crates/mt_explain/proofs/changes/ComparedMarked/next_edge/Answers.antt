use Rattle.std.proofs.Common.{◌∙◌, Option, ap, arith}
use Rattle.std.proofs.Math.Nat.{min-le_left, min-le_right}
use Rattle.mt_regs.specs.declared.page_type.PageType.{PageType}
use Rattle.mt_explain.specs.TypeChanges.{change_between, type_shown}
use Rattle.mt_explain.proofs.changes.ComparedMarked.next_edge.Goals as goal

pub returns-clause-same : goal.returns-clause-same
returns-clause-same c = λ other low high.
    let old = c.args.self.now.old.now in
    let new = c.args.self.now.new.now in
    let left = min-le_left c.edge_in.result c.edge_in-2.result in
    let right = min-le_right c.edge_in.result c.edge_in-2.result in
    ap (λ (t : Option PageType). change_between t (type_shown new other)) (c.edge_in.ensures.same other low (omega (arith, high, left, c.min.ensures)))
    ∙ ap (λ (t : Option PageType). change_between (type_shown old c.args.page) t) (c.edge_in-2.ensures.same other low (omega (arith, high, right, c.min.ensures)))
