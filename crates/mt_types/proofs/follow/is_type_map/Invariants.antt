use Rattle.std.proofs.Common.{drop}
use Rattle.mt_types.proofs.Following.{LeadsTo}
use Rattle.mt_types.proofs.follow.is_type_map.Given as goal

abbrev pub invariant-loop-run : goal.invariant-loop-run
invariant-loop-run l = LeadsTo l.list l.next l.before (drop l.run-index l.list)
