use Rattle.std.proofs.Common.{sym, ◌∙◌}
use Rattle.mt_dump.proofs.OneLine.{said_two}
use Rattle.mt_dump.proofs.line.read_words.Goals as goal

pub returns-in-2 : goal.returns-in-2
returns-in-2 c =
    let words = c.args.words.now in
    let is = rw (c.place-in-2.ensures, c.place-in-2-2.ensures, c.without_ending.ensures, c.text.ensures, c.text-in-2.ensures) at c.said_pair.ensures in
    is ∙ sym (said_two words.number words.words (sym c.count.ensures ∙ c.in-2.is))
