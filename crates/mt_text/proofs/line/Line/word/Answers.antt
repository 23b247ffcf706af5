use Rattle.mt_text.specs.Text.{content}
use Rattle.mt_text.proofs.Order.{moved_some, moved_none}
use Rattle.mt_text.proofs.line.Line.word.Goals as goal

pub returns-in_default-clause-word : goal.returns-in_default-clause-word
returns-in_default-clause-word c = moved_none c.args.self.now.offset c.args.i (content c.args.self.now.bytes.now) (rw c.without_ending.ensures at c.in_default.ensures.word)

pub returns-clause-word : goal.returns-clause-word
returns-clause-word c =
    let found = rw c.without_ending.ensures at c.in-Some.ensures.word in
    rw (c.word_between.ensures.offset, c.word_between.ensures.text) (moved_some c.args.self.now.offset c.args.i (content c.args.self.now.bytes.now) _ found)
