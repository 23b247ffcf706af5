use Rattle.std.proofs.Common.{◌∙◌, ◌<◌, sym, arith}
use Rattle.mt_regs.specs.RegisterFile.{page_count}
use Rattle.mt_plain.proofs.Mapping.{begins, ends, goes_on}
use Rattle.mt_plain.proofs.maps.put_map.Goals as goal
use Rattle.mt_plain.proofs.maps.put_map.Goals.{then-not-is, else-not-is}

pub loop-end-preserved : goal.loop-end-preserved
loop-end-preserved c =
    let u = c.loop-end.invariant in
    let edge = c.next_edge-end-in-loop-end.ensures in
    let kind = c.page_type-next.ensures in
    let inner : c.loop-end.end < page_count c.args.f.now = omega (arith, c.loop-end-test.true, c.pages-pages.ensures.pages) in
    elim c.if-not-is.branch [
      | then-not-is w ↦
          rw (w.runs-is, w.count-is, w.first-is, w.kind-is, w.put_run.ensures, w.run_between.ensures, kind)
          (begins c.args.f.now c.args.runs.now _ _ _ _ _ _ u inner (λ same. absurd (cc (c.is.ensures.1 (kind ∙ same), w.if-not-is.true))) edge.alike edge.above edge.bound edge.fewer)
      | else-not-is w ↦
          rw (w.runs-is, w.count-is, w.first-is, w.kind-is)
          (goes_on c.args.f.now c.args.runs.now _ _ _ _ _ _ u inner (sym kind ∙ c.is.ensures.0 w.if-not-is.false) edge.alike edge.above edge.bound edge.fewer)
    ]

pub returns : goal.returns
returns c =
    let pages = c.pages-pages.ensures in
    rw (c.put_run-2.ensures, c.run_between-2.ensures)
    (ends c.args.f.now c.args.runs.now _ _ _ _ _ c.loop-end.invariant (omega (arith, c.loop-end-test.false, pages.pages)) (omega (arith, pages.pages, pages.some)) (omega (arith, pages.pages, pages.bound)))
