use Rattle.std.proofs.Common.{length}
use Rattle.mt_import.proofs.linux.+bytes_value.Given as goal

abbrev pub decreases-bytes_value : goal.decreases-bytes_value
decreases-bytes_value l = length l.bytes.now
