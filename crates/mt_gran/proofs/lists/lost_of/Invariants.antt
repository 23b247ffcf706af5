use Rattle.std.proofs.Common.{drop}
use Rattle.mt_gran.specs.Granules.{pages_of}
use Rattle.mt_gran.proofs.Counts.{Counted}
use Rattle.mt_gran.proofs.lists.lost_of.Given as goal

abbrev pub invariant-loop-i : goal.invariant-loop-i
invariant-loop-i l = Counted (pages_of l.f) l.g (drop l.i l.parts) l.lost
