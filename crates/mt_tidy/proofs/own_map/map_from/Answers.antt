use Rattle.std.proofs.Common.{◌∙◌, ◌<◌, sym, arith}
use Rattle.mt_regs.specs.RegisterFile.{page_count}
use Rattle.mt_tidy.proofs.MapRuns.{begins, ends, goes_on, starts}
use Rattle.mt_tidy.proofs.own_map.map_from.Goals as goal
use Rattle.mt_tidy.proofs.own_map.map_from.Goals.{then-not-is, else-not-is}

pub loop-end-init : goal.loop-end-init
loop-end-init c =
    let kept = c.is_register_file.ensures in
    let edge = c.next_edge-end.ensures in
    rw c.page_type-kind.ensures
    (starts c.args.f.now c.args.from c.next_edge-end.result c.args.runs.now (omega (arith, kept.all_pairs, kept.few_pairs)) c.requires.room edge.alike edge.above edge.bound edge.fewer)

pub loop-end-preserved : goal.loop-end-preserved
loop-end-preserved c =
    let u = c.loop-end.invariant in
    let edge = c.next_edge-end-in-loop-end.ensures in
    let kind = c.page_type-next.ensures in
    let inner : c.loop-end.end < page_count c.args.f.now = omega (arith, c.loop-end-test.true, c.pages-pages.ensures.pages) in
    elim c.if-not-is.branch [
      | then-not-is w ↦
          rw (w.runs-is, w.count-is, w.first-is, w.kind-is, kind)
          (begins c.args.f.now c.args.from _ _ _ _ _ u w.run_between.result w.run_between.ensures _ inner
          (λ same. absurd (cc (c.is.ensures.1 (kind ∙ same), w.if-not-is.true))) edge.alike edge.above edge.bound edge.fewer)
      | else-not-is w ↦
          rw (w.runs-is, w.count-is, w.first-is, w.kind-is)
          (goes_on c.args.f.now c.args.from _ _ _ _ _ u _ inner (sym kind ∙ c.is.ensures.0 w.if-not-is.false) edge.alike edge.above edge.bound edge.fewer)
    ]

pub returns-clause-map : goal.returns-clause-map
returns-clause-map c =
    let pages = c.pages-pages.ensures in
    ends c.args.f.now c.args.from _ _ _ _ _ c.loop-end.invariant c.run_between-2.result c.run_between-2.ensures (omega (arith, c.loop-end-test.false, pages.pages))
    (omega (arith, pages.pages, pages.some)) (omega (arith, pages.pages, pages.bound))
