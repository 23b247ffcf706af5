use Rattle.std.proofs.Common.{[], ◌∙◌, sym, Ok, Err}
use Rattle.mt_dump.proofs.Gives.{given_at_end}
use Rattle.mt_dump.proofs.given.GivenReaderLineReader.finish_at.Goals as goal

pub returns-in-Ok-clause-value : goal.returns-in-Ok-clause-value
returns-in-Ok-clause-value c = λ number course led.
    given_at_end c.args.self.reader led.before c.args.end (Ok c.in-Ok.dump) c.args.self.ended.items c.append.new.sections.items c.has_width-has_width.result c.section.result led.read.clean (c.in-Ok.ensures led.before led.read)
    (c.has_width-has_width.ensures led.before led.read) led.ended_is (c.section.ensures led.before led.read) c.append.ensures ∙ sym (led.leads [] c.args.end)

pub returns-in-Err-clause-value : goal.returns-in-Err-clause-value
returns-in-Err-clause-value c = λ number course led.
    given_at_end c.args.self.reader led.before c.args.end (Err c.in-Err.fault) c.args.self.ended.items c.append.new.sections.items c.has_width-has_width.result c.section.result led.read.clean (c.in-Err.ensures led.before led.read)
    (c.has_width-has_width.ensures led.before led.read) led.ended_is (c.section.ensures led.before led.read) c.append.ensures ∙ sym (led.leads [] c.args.end)
