use Rattle.mt_explain.proofs.Walked.{alike_marks}
use Rattle.mt_explain.proofs.clash.ClashingMarked.next_edge.Goals as goal

pub returns-clause-same : goal.returns-clause-same
returns-clause-same c = alike_marks c.args.self.now.file.now c.args.page c.next_edge.result c.next_edge.ensures.alike
