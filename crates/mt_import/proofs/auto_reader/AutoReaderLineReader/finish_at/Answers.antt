use Rattle.std.proofs.Common.{◌∙◌, ap}
use Rattle.mt_import.specs.Readers.{tries_in}
use Rattle.mt_import.proofs.Settling.{best_ends}
use Rattle.mt_import.proofs.auto_reader.AutoReaderLineReader.finish_at.Goals as goal

pub returns-clause-value : goal.returns-clause-value
returns-clause-value c = λ number course led.
    let reader = c.args.self in
    let tries = c.by.ensures ∙ ap (tries_in reader.readers.now) c.taken.ensures in
    c.settled_in.ensures.settled ∙ best_ends reader.supplied.now reader.readers.now reader.census number course c.args._end led c.by.result.now c.answer-answer.result tries (c.answer-answer.ensures.value number)
