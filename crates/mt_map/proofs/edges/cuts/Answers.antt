use Rattle.std.proofs.Common.{arith}
use Rattle.mt_map.proofs.Walking.{edges_end, goes_on_next}
use Rattle.mt_map.proofs.edges.cuts.Goals as goal

pub loop-page-preserved : goal.loop-page-preserved
loop-page-preserved c = record {
  bound = c.band_end-page.ensures.within;
  edges = goes_on_next c.args.f.now c.args.others.now c.loop-page.cuts.items _ c.loop-page.page c.band_end-page.result c.loop-page.invariant.edges c.band_end-page.ensures c.in-Ok.ensures.items;
}

pub returns : goal.returns
returns c = record {
  edges = edges_end c.args.f.now c.args.others.now c.loop-page.cuts.items c.loop-page.page c.loop-page.invariant.edges
      (omega (arith, c.loop-page.invariant.bound, c.pages-pages.ensures.pages));
}
