use Rattle.std.proofs.Common.{◌∙◌, ◌<◌, ap, arith}
use Rattle.std.specs.Option.{option_map}
use Rattle.std.proofs.Math.Nat.{min-le_left, min-le_right}
use Rattle.mt_explain.specs.declared.decider.Decider.{Decider}
use Rattle.mt_explain.specs.Causes.{cause_of}
use Rattle.mt_explain.specs.Deciders.{decider_of}
use Rattle.mt_explain.specs.Memory.{misfit_at}
use Rattle.mt_explain.proofs.caused.CausedMarked.next_edge.Goals as goal

pub returns-clause-same : goal.returns-clause-same
returns-clause-same c = λ other low high.
    let f = c.args.self.now.file.now in
    let ranges = c.args.self.now.ranges.now in
    let misfit = c.misfit_edge.result in
    let decider = c.decider_edge.result in
    let before_misfit : other < misfit = omega (arith, high, min-le_left misfit decider, c.min.ensures) in
    let before_decider : other < decider = omega (arith, high, min-le_right misfit decider, c.min.ensures) in
    ap (λ (d : Decider). option_map (cause_of d) (misfit_at f ranges other)) (c.decider_edge.ensures.same other low before_decider)
    ∙ ap (option_map (cause_of (decider_of f c.args.page))) (c.misfit_edge.ensures.same other low before_misfit)
