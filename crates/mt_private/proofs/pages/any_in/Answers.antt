use Rattle.std.proofs.Common.{◌≡◌, ◌∙◌, sym, true, false, arith}
use Rattle.std.specs.Prelude.{◌==◌}
use Rattle.mt_private.proofs.Lists.{any_here, any_on}
use Rattle.mt_private.proofs.pages.any_in.Goals as goal

pub returns-then-page : goal.returns-then-page
returns-then-page g c =
    let here : (g.T.InPage.its_page c.at.result.now == c.args.page) ≡ true = grind arith in
    sym (any_here (λ x. g.T.InPage.its_page x == c.args.page) c.args.xs.now c.loop-i.i c.at.result.now c.at.ensures here) ∙ c.loop-i.invariant

pub loop-i-preserved : goal.loop-i-preserved
loop-i-preserved g c =
    let here : (g.T.InPage.its_page c.at.result.now == c.args.page) ≡ false = grind arith in
    any_on (λ x. g.T.InPage.its_page x == c.args.page) c.args.xs.now c.loop-i.i c.at.result.now c.at.ensures here ∙ c.loop-i.invariant
