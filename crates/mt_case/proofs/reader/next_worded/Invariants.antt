use Rattle.std.proofs.Common.{length}
use Rattle.mt_case.proofs.reader.next_worded.Given as goal

abbrev pub decreases-loop-line : goal.decreases-loop-line
decreases-loop-line l = length l.lines.bytes
