use Rattle.mt_import.proofs.command_reader.read_log.Goals as goal

pub returns-in-Auto-clause-answer : goal.returns-in-Auto-clause-answer
returns-in-Auto-clause-answer g c = λ bytes is. rw c.in-Auto.is (c.read_auto.ensures.answer bytes is)

pub returns-in-Only-clause-answer : goal.returns-in-Only-clause-answer
returns-in-Only-clause-answer g c = λ bytes is. rw c.in-Only.is (c.read_only.ensures.answer bytes is)
