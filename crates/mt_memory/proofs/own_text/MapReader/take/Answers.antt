use Rattle.mt_memory.proofs.Fed.{not_long, words_taken}
use Rattle.mt_memory.proofs.own_text.MapReader.take.Goals as goal

pub returns : goal.returns
returns c =
    let line = c.args.line.now in
    words_taken c.args.self.now c.take_words.new.self line.number line.bytes.now c.first_words.result c.take_words.result
    (not_long line.bytes.now c.too_long.result c.too_long.ensures c.if-too_long.false) c.first_words.ensures c.take_words.ensures
