use Rattle.std.proofs.Common.{◌≡◌, ◌∙◌, ◌-◌, ap, arith, get_or}
use Rattle.std.specs.Prelude.{min}
use Rattle.mt_regs.specs.RegisterFile.{page_count}
use Rattle.mt_map.specs.Bands.{bands, bottom}
use Rattle.mt_map.proofs.Stacking.{band_next, band_same, bottom_next, bottom_same, placed_next}
use Rattle.mt_map.proofs.stack.bands.Goals.{then-page-end+in_ok-push, else-page-end}
use Rattle.mt_map.proofs.stack.bands.Goals as goal

pub cuts-preserved : goal.cuts-preserved
cuts-preserved c =
    let cuts = c.args.cuts.now in
    let inv = c.cuts.invariant in
    let end_is : c.min-end.result ≡ min (get_or cuts c.cuts.cut-index 0) (page_count c.args.f.now) =
    c.min-end.ensures ∙ ap (min (get_or cuts c.cuts.cut-index 0)) c.pages-pages.ensures.pages in
    elim c.if-page-end.branch [
      | then-page-end+in_ok-push w ↦ rw (w.bands-is, w.page-is, w.top-is) (record {
        items = band_next c.args.f.now c.args.others.now c.cuts.bands.items _ (bands c.args.f.now c.args.others.now cuts) c.cuts.page c.cuts.top c.cuts.cut-index cuts 0 c.min-end.result
            w.page_type.result w.other_type.result w.height-top.result c.cuts-test.true end_is w.if-page-end.true w.in_ok-push.ensures.items w.page_type.ensures w.other_type.ensures
            w.height-top.ensures.height inv.items;
        bottom = bottom_next c.args.f.now (bottom c.args.f.now cuts) c.cuts.page c.cuts.top c.cuts.cut-index cuts 0 c.min-end.result w.height-top.result c.cuts-test.true end_is
            w.if-page-end.true w.height-top.ensures.height inv.bottom;
        placed = placed_next c.cuts.bands.items _ (record { first = c.cuts.page; count = c.min-end.result - c.cuts.page; top = c.cuts.top; kind = w.page_type.result; other = w.other_type.result })
            w.in_ok-push.ensures.items inv.placed (record {
              some = omega (arith, w.if-page-end.true);
              pages = omega (arith, w.if-page-end.true, c.min-end.ensures, c.pages-pages.ensures.bound);
              top = omega (arith, inv.top, inv.page);
            });
        page = omega (arith, c.min-end.ensures, c.pages-pages.ensures.bound);
        top = omega (arith, inv.top, w.if-page-end.true, w.height-top.ensures.few (omega (arith, w.if-page-end.true)));
      })
      | else-page-end w ↦ rw (w.bands-is, w.page-is, w.top-is) (record {
        items = band_same c.args.f.now c.args.others.now c.cuts.bands.items (bands c.args.f.now c.args.others.now cuts) c.cuts.page c.cuts.top c.cuts.cut-index cuts 0 c.min-end.result
            c.cuts-test.true end_is w.if-page-end.false inv.items;
        bottom = bottom_same c.args.f.now (bottom c.args.f.now cuts) c.cuts.page c.cuts.top c.cuts.cut-index cuts 0 c.min-end.result c.cuts-test.true end_is w.if-page-end.false inv.bottom;
        placed = inv.placed;
        page = inv.page;
        top = inv.top;
      })
    ]
