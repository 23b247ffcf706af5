use Rattle.std.proofs.Common.{◌∙◌, ◌<◌, sym, arith}
use Rattle.mt_regs.specs.RegisterFile.{page_count}
use Rattle.mt_mend.specs.Wishes.{all_edges_past, wished_type}
use Rattle.mt_mend.proofs.Past.{few_in_all}
use Rattle.mt_mend.proofs.Walking.{begins, ends, goes_on, starts}
use Rattle.mt_mend.proofs.wished.wished_runs.Goals as goal
use Rattle.mt_mend.proofs.wished.wished_runs.Goals.{then-not-is, else-not-is}

pub loop-end-init : goal.loop-end-init
loop-end-init c =
    let kept = c.is_register_file.ensures in
    let edge = c.next_edge-end.ensures in
    let f = c.args.f.now in
    let wishes = c.args.wishes.now in
    rw c.wished_type-kind.ensures
    (starts (wished_type f wishes) (page_count f) 281 (all_edges_past f wishes) c.next_edge-end.result c.args.runs.now c.requires.room
    (few_in_all f wishes (omega (arith, kept.all_pairs, kept.few_pairs)) c.requires.some) edge.above edge.bound edge.same edge.fewer)

pub loop-end-preserved : goal.loop-end-preserved
loop-end-preserved c =
    let u = c.loop-end.invariant in
    let edge = c.next_edge-end-in-loop-end.ensures in
    let kind = c.wished_type-next.ensures in
    let f = c.args.f.now in
    let wishes = c.args.wishes.now in
    let inner : c.loop-end.end < page_count f = omega (arith, c.loop-end-test.true, c.pages-pages.ensures.pages) in
    elim c.if-not-is.branch [
      | then-not-is w ↦
          rw (w.runs-is, w.count-is, w.first-is, w.kind-is, kind)
          (begins (wished_type f wishes) (page_count f) 281 (all_edges_past f wishes) _ _ _ _ _ u w.run_between.result w.run_between.ensures _ inner
          (λ same. absurd (cc (c.is.ensures.1 (kind ∙ same), w.if-not-is.true))) edge.same edge.above edge.bound edge.fewer)
      | else-not-is w ↦
          rw (w.runs-is, w.count-is, w.first-is, w.kind-is)
          (goes_on (wished_type f wishes) (page_count f) 281 (all_edges_past f wishes) _ _ _ _ _ u _ inner (sym kind ∙ c.is.ensures.0 w.if-not-is.false)
          edge.same edge.above edge.bound edge.fewer)
    ]

pub returns-clause-map : goal.returns-clause-map
returns-clause-map c =
    let pages = c.pages-pages.ensures in
    let f = c.args.f.now in
    let wishes = c.args.wishes.now in
    let built = ends (wished_type f wishes) (page_count f) 281 (all_edges_past f wishes) _ _ _ _ _ c.loop-end.invariant c.run_between-2.result c.run_between-2.ensures
    (omega (arith, c.loop-end-test.false, pages.pages)) (omega (arith, pages.pages, pages.some)) (omega (arith, pages.pages, pages.bound)) in
    record { map = built.map; whole = built.whole; kinds = built.kinds }
