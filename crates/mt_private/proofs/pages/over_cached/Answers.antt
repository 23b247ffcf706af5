use Rattle.std.proofs.Common.{◌∙◌, ap, ◌+◌, drop, Option, ℕ}
use Rattle.std.specs.List.{fold}
use Rattle.mt_private.specs.Pages.{better, is_shared, page_of_line}
use Rattle.mt_private.proofs.Lists.{fold_on}
use Rattle.mt_private.proofs.pages.over_cached.Goals as goal

pub loop-i-preserved : goal.loop-i-preserved
loop-i-preserved c =
    let shared = is_shared c.args.cpus.now in
    ap (λ (b : Option ℕ). fold (λ b x. better shared b (page_of_line x)) b (drop (c.loop-i.i + 1) c.args.cache.now)) (c.better-best.ensures ∙ ap (better shared c.loop-i.best) c.page.ensures)
    ∙ fold_on (λ b x. better shared b (page_of_line x)) c.loop-i.best c.args.cache.now c.loop-i.i c.nth.result.now c.nth.ensures
    ∙ c.loop-i.invariant
