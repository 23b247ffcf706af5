use Rattle.std.specs.Prelude.{length}
use Rattle.mt_private.proofs.gather.+give_all.Given as goal

abbrev pub decreases-give_all : goal.decreases-give_all
decreases-give_all l = length l.parts.now.cpus.items
