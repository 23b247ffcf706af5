use Rattle.std.proofs.Common.{◌≡◌, ◌∙◌, sym, true, false, arith}
use Rattle.std.specs.Prelude.{◌==◌}
use Rattle.mt_private.specs.Pages.{page_of_line}
use Rattle.mt_private.proofs.Lists.{any_here, any_on}
use Rattle.mt_private.proofs.pages.has_cached.Goals as goal

pub returns-then-page : goal.returns-then-page
returns-then-page c =
    let here : (page_of_line c.nth.result.now == c.args.page) ≡ true = grind arith in
    sym (any_here (λ l. page_of_line l == c.args.page) c.args.cache.now c.loop-i.i c.nth.result.now c.nth.ensures here) ∙ c.loop-i.invariant

pub loop-i-preserved : goal.loop-i-preserved
loop-i-preserved c =
    let here : (page_of_line c.nth.result.now == c.args.page) ≡ false = grind arith in
    any_on (λ l. page_of_line l == c.args.page) c.args.cache.now c.loop-i.i c.nth.result.now c.nth.ensures here ∙ c.loop-i.invariant
