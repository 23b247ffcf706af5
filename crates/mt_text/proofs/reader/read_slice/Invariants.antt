use Rattle.std.proofs.Common.{length}
use Rattle.std.specs.Prelude.{Result}
use Rattle.mt_text.specs.Reader.{Course}
use Rattle.mt_text.proofs.Courses.{IsAmong}
use Rattle.mt_text.proofs.reader.read_slice.Given as goal

abbrev pub invariant-lines : goal.invariant-lines
invariant-lines g l = (course : Course (Result _ _)) → g.R.LineReader.at l.initial.reader 1 course → IsAmong g.R.LineReader.at course l.source l.lines l.reader

abbrev pub decreases-lines : goal.decreases-lines
decreases-lines g l = length l.lines.bytes
