use Rattle.std.proofs.Common.{◌∙◌, ap, ◌+◌, drop, Option, ℕ}
use Rattle.std.specs.List.{fold}
use Rattle.mt_private.specs.Pages.{after_names, is_shared}
use Rattle.mt_private.proofs.Lists.{fold_on}
use Rattle.mt_private.proofs.pages.over_all.Goals as goal

pub loop-k-preserved : goal.loop-k-preserved
loop-k-preserved c =
    let after = after_names (is_shared c.args.cpus.now) in
    ap (λ (b : Option ℕ). fold after b (drop (c.loop-k.k + 1) c.args.cpus.now)) c.over_names-best.ensures
    ∙ fold_on after c.loop-k.best c.args.cpus.now c.loop-k.k c.at.result.now c.at.ensures
    ∙ c.loop-k.invariant
