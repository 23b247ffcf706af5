use Rattle.std.proofs.Common.{◌≡◌, drop}
use Rattle.mt_memory.specs.Log.{settled_from}
use Rattle.mt_memory.specs.Pages.{claims_of}
use Rattle.mt_memory.proofs.pages.lay_kind.Given as goal

abbrev pub invariant-each : goal.invariant-each
invariant-each l = settled_from l.settled (claims_of l.kind (drop l.range-index l.ranges)) ≡ settled_from l.initial.settled (claims_of l.kind l.ranges)
