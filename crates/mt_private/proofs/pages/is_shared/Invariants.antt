use Rattle.std.proofs.Common.{◌≡◌, ◌+◌, ◌≤◌, cond, drop}
use Rattle.std.specs.List.{count_by, fold}
use Rattle.mt_private.specs.Pages.{names}
use Rattle.mt_private.proofs.pages.is_shared.Given as goal

abbrev pub invariant-loop-k : goal.invariant-loop-k
invariant-loop-k l = (fold (λ n p. n + cond (names l.page p) 1 0) l.count (drop l.k l.cpus) ≡ count_by (names l.page) l.cpus) × (l.count ≤ l.k)
