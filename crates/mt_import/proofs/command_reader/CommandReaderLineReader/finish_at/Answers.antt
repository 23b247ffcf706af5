use Rattle.mt_import.proofs.command_reader.CommandReaderLineReader.finish_at.Goals as goal

pub returns-clause-value : goal.returns-clause-value
returns-clause-value c = λ number course led. c.answer.ensures.value number course c.args._end led
