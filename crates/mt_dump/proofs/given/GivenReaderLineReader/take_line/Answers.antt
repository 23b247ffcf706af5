use Rattle.std.proofs.Common.{◌+◌, ◌<◌, ◌∷◌, arith, length}
use Rattle.mt_dump.proofs.Gives.{grows, stays, takes_given}
use Rattle.mt_dump.proofs.given.GivenReaderLineReader.take_line.Goals as goal

pub returns-then-count-len-clause-takes : goal.returns-then-count-len-clause-takes
returns-then-count-len-clause-takes c =
    let kept = c.args.self.now.ended.items in
    takes_given c.args.self.now.reader c.take-taken.new.self c.args.line.now c.take-taken.result kept c.append.new.sections.items c.take-taken.ensures
    (λ says before was read kept_is.
    let more : length kept + 1 < c.count.result = let e = c.if-count-len.true in omega (arith, e, c.len.ensures.value) in
    grows says before read.clean kept kept_is c.count.result (c.count.ensures (says ∷ before) read) c.section-section.result c.append.new.sections.items (c.section-section.ensures before was) more c.append.ensures)

pub returns-else-count-len-clause-takes : goal.returns-else-count-len-clause-takes
returns-else-count-len-clause-takes c =
    let kept = c.args.self.now.ended.items in
    takes_given c.args.self.now.reader c.take-taken.new.self c.args.line.now c.take-taken.result kept kept c.take-taken.ensures
    (λ says before was read kept_is. stays says before read.clean kept kept_is c.count.result (c.count.ensures (says ∷ before) read) (λ more. let e = c.if-count-len.false in omega (arith, e, more, c.len.ensures.value)))
