use Rattle.std.proofs.Common.{◌≡◌, drop}
use Rattle.std.specs.List.{list_any}
use Rattle.std.specs.Prelude.{◌==◌}
use Rattle.mt_private.specs.Pages.{page_of_line}
use Rattle.mt_private.proofs.pages.has_cached.Given as goal

abbrev pub invariant-loop-i : goal.invariant-loop-i
invariant-loop-i l = list_any (λ x. page_of_line x == l.page) (drop l.i l.cache) ≡ list_any (λ x. page_of_line x == l.page) l.cache
