use Rattle.std.proofs.Common.{length}
use Rattle.mt_import.proofs.census.+have_register.Given as goal

abbrev pub decreases-have_register : goal.decreases-have_register
decreases-have_register l = length l.shows.now
