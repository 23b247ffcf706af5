use Rattle.std.specs.Prelude.{length}
use Rattle.mt_private.proofs.leaving.+bring_all.Given as goal

abbrev pub decreases-bring_all : goal.decreases-bring_all
decreases-bring_all l = length l.owns.now.items
