use Rattle.std.proofs.Common.{◌∙◌}
use Rattle.mt_text.specs.Text.{words_of}
use Rattle.mt_proc.proofs.FirstWords.{asked_first}
use Rattle.mt_proc.proofs.reading.read_words.Goals as goal

pub returns : goal.returns
returns c =
    let line = c.args.line.now in
    rw c.first_words.ensures at c.asked_by.ensures ∙ asked_first line.number (words_of line.bytes.now)
