use Rattle.std.proofs.Common.{◌≡◌, drop}
use Rattle.std.specs.List.{list_any}
use Rattle.std.specs.Prelude.{◌==◌}
use Rattle.mt_private.proofs.pages.any_in.Given as goal

abbrev pub invariant-loop-i : goal.invariant-loop-i
invariant-loop-i g l = list_any (λ x. g.T.InPage.its_page x == l.page) (drop l.i l.xs) ≡ list_any (λ x. g.T.InPage.its_page x == l.page) l.xs
