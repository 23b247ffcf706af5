use Rattle.std.proofs.Common.{◌∙◌, ap, arith, subst, sym}
use Rattle.mt_regs.specs.PageTypes.{defined_type}
use Rattle.mt_tidy.proofs.Wishes.{wish_free, wish_mixed, wish_only}
use Rattle.mt_trie.specs.declared.wish.Wish.TheVariants.{Only}
use Rattle.mt_types.specs.Runs.{HasPage, run_end}
use Rattle.mt_types.proofs.Chains.{within_chain}
use Rattle.std.specs.List.{slice_index_or}
use Rattle.mt_tidy.proofs.lent.wish_of.Goals as goal

pub overflow_add-run : goal.overflow_add-run
overflow_add-run c =
    let inner = within_chain 0 c.args.wanted.now c.place_of-place.result c.run_at-run.result c.requires.map.chain c.place_of-place.ensures.within in
    omega (arith, inner.2, c.requires.map.bound, ap run_end (c.run_at-run.ensures c.run_at-run.result))

pub returns-then-end-start : goal.returns-then-end-start
returns-then-end-start c =
    wish_free c.args.rules.now c.args.wanted.now c.args.b.now (omega (arith, c.if-end-start.true, c.end-end.ensures, c.first_page-start.ensures))

pub returns-then-run-end : goal.returns-then-run-end
returns-then-run-end c =
    let at = c.run_at-run.ensures c.run_at-run.result in
    wish_mixed c.args.rules.now c.args.wanted.now c.args.b.now c.place_of-place.result c.run_at-run.result c.requires.map c.requires.defined c.place_of-place.ensures.within
    (subst (HasPage (slice_index_or c.args.wanted.now c.place_of-place.result c.run_at-run.result)) c.first_page-start.ensures (c.place_of-place.ensures.page c.run_at-run.result)) c.requires.covered
    (omega (arith, ap run_end at, c.if-run-end.true, c.end-end.ensures))

pub returns-else-run-end : goal.returns-else-run-end
returns-else-run-end c =
    let at = c.run_at-run.ensures c.run_at-run.result in
    wish_only c.args.rules.now c.args.wanted.now c.args.b.now c.place_of-place.result c.run_at-run.result c.requires.map.chain c.requires.defined c.place_of-place.ensures.within
    (subst (HasPage (slice_index_or c.args.wanted.now c.place_of-place.result c.run_at-run.result)) c.first_page-start.ensures (c.place_of-place.ensures.page c.run_at-run.result))
    (omega (arith, c.if-end-start.false, c.end-end.ensures, c.first_page-start.ensures))
    (omega (arith, ap run_end at, c.if-run-end.false, c.end-end.ensures))
    ∙ ap (λ r. Only (defined_type r.kind)) (sym at) ∙ ap Only (sym c.defined.ensures)
