use Rattle.std.proofs.Common.{◌≡◌, drop, None}
use Rattle.std.specs.List.{fold}
use Rattle.mt_private.specs.Pages.{after_names, is_shared}
use Rattle.mt_private.proofs.pages.over_all.Given as goal

abbrev pub invariant-loop-k : goal.invariant-loop-k
invariant-loop-k l = fold (after_names (is_shared l.cpus)) l.best (drop l.k l.cpus) ≡ fold (after_names (is_shared l.cpus)) None l.cpus
