use Rattle.std.proofs.Common.{length}
use Rattle.mt_import.proofs.reader.LogReader.+shows_one_of.Given as goal

abbrev pub decreases-shows_one_of : goal.decreases-shows_one_of
decreases-shows_one_of l = length l.numbers.now
