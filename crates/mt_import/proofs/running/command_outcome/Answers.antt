use Rattle.std.proofs.Common.{◌∙◌, sym}
use Rattle.mt_import.proofs.running.command_outcome.Goals as goal

pub returns-in-Some-command_of-clause-answer : goal.returns-in-Some-command_of-clause-answer
returns-in-Some-command_of-clause-answer g c = λ bytes is. rw (c.in_default.ensures.text, sym c.command_of.ensures ∙ c.in-Some-command_of.is) (c.read_log.ensures.answer bytes is)
