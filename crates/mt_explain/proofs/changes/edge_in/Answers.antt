use Rattle.mt_explain.proofs.Walked.{alike_shown}
use Rattle.mt_explain.proofs.changes.edge_in.Goals as goal

pub returns-then-page-pages-clause-same : goal.returns-then-page-pages-clause-same
returns-then-page-pages-clause-same c =
    let edge = c.next_edge.ensures in
    alike_shown c.args.f.now c.args.page c.next_edge.result edge.alike edge.above edge.bound
