use Rattle.mt_map.proofs.Walking.{band_grows}
use Rattle.mt_map.proofs.edges.band_end.Goals as goal

pub loop-end-preserved : goal.loop-end-preserved
loop-end-preserved c =
    band_grows c.args.f.now c.args.others.now c.args.first c.loop-end.end c.next_edge-end-in-loop-end.result c.loop-end.invariant
    (c.goes_on.ensures.same c.if-not-goes_on.false) (c.goes_on.ensures.other_same c.if-not-goes_on.false) c.next_edge-end-in-loop-end.ensures
