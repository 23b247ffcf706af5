use Rattle.std.proofs.Common.{◌∙◌, ap, ◌+◌, drop, Option, ℕ}
use Rattle.std.specs.List.{fold}
use Rattle.mt_private.specs.Pages.{better, is_shared}
use Rattle.mt_private.proofs.Lists.{fold_on}
use Rattle.mt_private.proofs.pages.over_pages.Goals as goal

pub loop-i-preserved : goal.loop-i-preserved
loop-i-preserved g c =
    let shared = is_shared c.args.cpus.now in
    let page = g.T.InPage.its_page in
    ap (λ (b : Option ℕ). fold (λ b x. better shared b (page x)) b (drop (c.loop-i.i + 1) c.args.xs.now)) (c.better-best.ensures ∙ ap (better shared c.loop-i.best) c.page.ensures)
    ∙ fold_on (λ b x. better shared b (page x)) c.loop-i.best c.args.xs.now c.loop-i.i c.at.result.now c.at.ensures
    ∙ c.loop-i.invariant
