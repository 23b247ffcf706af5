use Rattle.std.proofs.Common.{◌+◌, ap, arith}
use Rattle.mt_types.proofs.Chains.{found_page}
use Rattle.mt_tidy.proofs.lent.place_of.Goals as goal

pub returns-else-run_at-page-clause-page : goal.returns-else-run_at-page-clause-page
returns-else-run_at-page-clause-page c = λ d.
    found_page c.args.list.now c.loop-place.place (c.loop-place.place + 1) c.args.page d c.requires.chain c.requires.covered (omega arith)
    (omega (arith, c.loop-place-test.true, c.count-count.ensures)) (c.loop-place.invariant.low d)
    (λ _. omega (arith, ap (λ r. r.first) (c.run_at.ensures d), c.if-run_at-page.false))

pub returns-after-loop-place-clause-page : goal.returns-after-loop-place-clause-page
returns-after-loop-place-clause-page c = λ d.
    found_page c.args.list.now c.loop-place.place (c.loop-place.place + 1) c.args.page d c.requires.chain c.requires.covered (omega arith)
    (omega (arith, c.loop-place.invariant.within)) (c.loop-place.invariant.low d)
    (λ within. absurd (omega (arith, within, c.loop-place-test.false, c.count-count.ensures)))
