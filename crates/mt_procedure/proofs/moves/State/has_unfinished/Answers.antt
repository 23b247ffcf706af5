use Rattle.std.proofs.Common.{◌≡◌, ◌∙◌, false, sym}
use Rattle.mt_procedure.specs.Dues.{is_unfinished}
use Rattle.mt_procedure.proofs.Counted.{more_below}
use Rattle.mt_procedure.proofs.moves.State.has_unfinished.Goals as goal

pub loop-k-preserved : goal.loop-k-preserved
loop-k-preserved c = more_below (λ j. is_unfinished c.args.case.now c.args.self.now j ≡ false) c.loop-k.k c.loop-k.invariant (sym c.is_unfinished.ensures ∙ c.if-is_unfinished.false)
