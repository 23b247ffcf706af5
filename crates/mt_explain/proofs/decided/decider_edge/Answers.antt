use Rattle.std.proofs.Common.{◌<◌, arith}
use Rattle.std.proofs.Math.Nat.{min-le_left, min-le_right}
use Rattle.mt_explain.proofs.Walked.{alike_deciders, alike_pairs, alike_types}
use Rattle.mt_explain.proofs.decided.decider_edge.Goals as goal

pub returns-clause-same : goal.returns-clause-same
returns-clause-same c = λ other low high.
    let f = c.args.f.now in
    let page = c.args.page in
    let part = c.part_edge.result in
    let end = c.next_edge.result in
    let before_part : other < part = omega (arith, high, min-le_left part end, c.min.ensures) in
    let before_end : other < end = omega (arith, high, min-le_right part end, c.min.ensures) in
    let pairs = alike_pairs f page end c.next_edge.ensures.alike other low before_end in
    let types = alike_types f page end c.next_edge.ensures.alike other low before_end in
    alike_deciders f page other pairs types (c.part_edge.ensures.part other low before_part)
