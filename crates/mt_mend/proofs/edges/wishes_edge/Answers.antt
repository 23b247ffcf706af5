use Rattle.std.proofs.Common.{arith}
use Rattle.mt_mend.proofs.Past.{same_over, sum_falls}
use Rattle.mt_mend.proofs.edges.wishes_edge.Goals as goal

pub loop-wish-preserved : goal.loop-wish-preserved
loop-wish-preserved c =
    let kept = c.loop-wish.invariant in
    let edge = c.wish_edge.ensures in
    let least = c.min-next.ensures in
    record {
      above = omega (arith, kept.above, edge.above, least);
      bound = omega (arith, kept.bound, least);
      same = λ own other low high.
          same_over own c.args.wishes.now c.loop-wish.wish-index c.args.page other _ c.loop-wish-test.true (kept.same own other low (omega (arith, high, least)))
          (edge.same other low (omega (arith, high, least)));
      fewer =
          rw least
          (sum_falls c.args.page c.loop-wish.next c.wish_edge.result c.args.end c.loop-wish.wish-index c.args.wishes.now _ c.loop-wish-test.true
          kept.above edge.above kept.fewer edge.fewer);
    }
