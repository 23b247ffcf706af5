use Rattle.std.proofs.Common.{◌∙◌, ap, arith}
use Rattle.mt_mend.specs.Wishes.{over}
use Rattle.mt_mend.proofs.Past.{all_fall}
use Rattle.mt_mend.proofs.Granted.{ends_in_time}
use Rattle.mt_mend.proofs.edges.next_edge.Goals as goal

pub wishes_edge-requires-clause-last : goal.wishes_edge-requires-clause-last
wishes_edge-requires-clause-last c = ends_in_time c.args.f.now c.args.wishes.now c.is_register_file.ensures.narrow c.requires.wishes

pub returns-clause-same : goal.returns-clause-same
returns-clause-same c = λ other low high.
    ap (λ k. over k c.args.wishes.now other) (c.next_edge.ensures.alike.kind other low (omega (arith, high, c.wishes_edge.ensures.bound)))
    ∙ c.wishes_edge.ensures.same _ other low high

pub returns-clause-fewer : goal.returns-clause-fewer
returns-clause-fewer c =
    all_fall c.args.f.now c.args.wishes.now c.args.page c.wishes_edge.result c.next_edge.result _ c.wishes_edge.ensures.above c.wishes_edge.ensures.bound
    c.wishes_edge.ensures.fewer c.next_edge.ensures.fewer
