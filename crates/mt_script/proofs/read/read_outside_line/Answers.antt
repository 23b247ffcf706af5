use Rattle.std.proofs.Common.{◌∙◌}
use Rattle.mt_text.specs.Text.{words_of}
use Rattle.mt_script.proofs.FirstWords.{outside_first}
use Rattle.mt_script.proofs.read.read_outside_line.Goals as goal

pub returns : goal.returns
returns c =
    let line = c.args.line.now in
    rw c.find_words.ensures at c.read_outside.ensures ∙ outside_first (words_of line.bytes.now) c.args.st.now line.number
