use Rattle.std.proofs.Common.{[], ◌∙◌, sym}
use Rattle.mt_dump.proofs.reader.DumpReaderLineReader.finish_at.Goals as goal

pub returns-clause-value : goal.returns-clause-value
returns-clause-value c = λ number course led. c.finish.ensures led.before led.read ∙ sym (led.leads [] c.args.end)
