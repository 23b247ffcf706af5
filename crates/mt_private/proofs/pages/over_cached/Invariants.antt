use Rattle.std.proofs.Common.{◌≡◌, drop}
use Rattle.std.specs.List.{fold}
use Rattle.mt_private.specs.Pages.{better, is_shared, page_of_line}
use Rattle.mt_private.proofs.pages.over_cached.Given as goal

abbrev pub invariant-loop-i : goal.invariant-loop-i
invariant-loop-i l =
    fold (λ b x. better (is_shared l.cpus) b (page_of_line x)) l.best (drop l.i l.cache)
    ≡ fold (λ b x. better (is_shared l.cpus) b (page_of_line x)) l.fn.best l.cache
