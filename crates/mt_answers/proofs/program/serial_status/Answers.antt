use Rattle.mt_answers.proofs.program.serial_status.Goals as goal

pub returns-clause-ends : goal.returns-clause-ends
returns-clause-ends g c = (c.run.result, c.exit_code.ensures, c.run.ensures.ends)

pub returns-clause-no_text : goal.returns-clause-no_text
returns-clause-no_text g c = (c.run.result, c.exit_code.ensures, c.run.ensures.no_text)
