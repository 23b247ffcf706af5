use Rattle.mt_cli.proofs.program.program_status.Goals as goal

pub returns-clause-run : goal.returns-clause-run
returns-clause-run g c = (c.run.result, c.exit_code.ensures, c.run.ensures.run)

pub returns-clause-no_command : goal.returns-clause-no_command
returns-clause-no_command g c = (c.run.result, c.exit_code.ensures, c.run.ensures.no_command)

pub returns-clause-no_text : goal.returns-clause-no_text
returns-clause-no_text g c = (c.run.result, c.exit_code.ensures, c.run.ensures.no_text)
