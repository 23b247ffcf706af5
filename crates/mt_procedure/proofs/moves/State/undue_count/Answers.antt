use Rattle.mt_procedure.specs.Dues.{IsDueAt}
use Rattle.mt_procedure.proofs.Counted.{more_below, some_count}
use Rattle.mt_procedure.proofs.moves.State.undue_count.Goals as goal

pub loop-k-preserved : goal.loop-k-preserved
loop-k-preserved c = record {
  due = λ none.
      let both = c.sum-count.ensures.0 none in
      more_below (λ j. IsDueAt c.args.case.now c.args.self.now j) c.loop-k.k (c.loop-k.invariant.due both.0) (c.undue_at.ensures.due both.1);
  undue = λ some.
      some_count _ c.loop-k.count c.undue_at.result c.sum-count.result c.sum-count.ensures.1 some c.loop-k.invariant.undue (λ more. (c.loop-k.k, c.undue_at.ensures.undue more));
}
