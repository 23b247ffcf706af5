use Rattle.std.proofs.Common.{◌≡◌, drop}
use Rattle.mt_memory.specs.Pages.{kinds_from}
use Rattle.mt_memory.proofs.pages.settled_kinds.Given as goal

abbrev pub invariant-each : goal.invariant-each
invariant-each l = kinds_from l.settled (drop l.kind-index l.kinds) l.ranges ≡ kinds_from l.initial.settled l.kinds l.ranges
