use Rattle.std.proofs.Common.{◌≡◌, drop}
use Rattle.std.specs.List.{fold}
use Rattle.mt_private.specs.Pages.{better, is_shared}
use Rattle.mt_private.proofs.pages.over_pages.Given as goal

abbrev pub invariant-loop-i : goal.invariant-loop-i
invariant-loop-i g l =
    fold (λ b x. better (is_shared l.cpus) b (g.T.InPage.its_page x)) l.best (drop l.i l.xs)
    ≡ fold (λ b x. better (is_shared l.cpus) b (g.T.InPage.its_page x)) l.fn.best l.xs
