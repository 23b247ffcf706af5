use Rattle.std.proofs.Common.{refl, arith}
use Rattle.mt_text.proofs.Courses.{at_all, ends_among, goes_on_among, offends_among}
use Rattle.mt_text.proofs.reader.read_slice.Goals as goal

pub lines-init : goal.lines-init
lines-init g c = λ course at. rw c.of-lines.ensures (at_all g.R.LineReader.at course c.args.source.now c.args.reader at)

pub returns-in-Err-clause-answer : goal.returns-in-Err-clause-answer
returns-in-Err-clause-answer g c = λ course at.
    offends_among g.R.LineReader.at course c.args.source.now (c.lines.invariant course at) c.in-Some.line c.front.result c.in-Some.ensures.first c.front.ensures.bytes c.front.ensures.number c.take_line.new.self c.in-Err.fault c.in-Err.ensures.takes

pub lines-smaller : goal.lines-smaller
lines-smaller g c = let first = c.in-Some.ensures.first in omega (arith, first.moves, first.end)

pub lines-preserved : goal.lines-preserved
lines-preserved g c = λ course at.
    goes_on_among g.R.LineReader.at course c.args.source.now (c.lines.invariant course at) c.in-Some.line c.front.result c.in-Some.ensures.first c.front.ensures.bytes c.front.ensures.number c.take_line.new.self c.in_default-take_line.ensures.takes

pub returns-clause-answer : goal.returns-clause-answer
returns-clause-answer g c = λ course at.
    ends_among g.R.LineReader.at course c.args.source.now (c.lines.invariant course at) c.in_default.ensures.first.0 c.finish_at.result (rw c.end_place.ensures at c.finish_at.ensures.value)
