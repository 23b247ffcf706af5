use Rattle.std.proofs.Common.{◌∙◌, ap, arith, ◌+◌, cond, drop, Bool, ℕ}
use Rattle.std.specs.List.{fold}
use Rattle.mt_private.specs.Pages.{names}
use Rattle.mt_private.proofs.Lists.{fold_on}
use Rattle.mt_private.proofs.pages.is_shared.Goals as goal

pub loop-k-preserved : goal.loop-k-preserved
loop-k-preserved c =
    let named = names c.args.page in
    let most = c.one_if-count.ensures.most in
    let low = c.loop-k.invariant.1 in (
      ap (λ (n : ℕ). fold (λ m p. m + cond (named p) 1 0) n (drop (c.loop-k.k + 1) c.args.cpus.now))
          (ap (λ (n : ℕ). c.loop-k.count + n) (c.one_if-count.ensures.value ∙ ap (λ (b : Bool). cond b 1 0) c.names.ensures))
          ∙ fold_on (λ m p. m + cond (named p) 1 0) c.loop-k.count c.args.cpus.now c.loop-k.k c.at.result.now c.at.ensures
          ∙ c.loop-k.invariant.0,
      omega arith,
    )
