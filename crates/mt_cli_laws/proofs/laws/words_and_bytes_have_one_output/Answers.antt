use Rattle.mt_cli_laws.proofs.OneOutput.{one_output}
use Rattle.mt_cli_laws.proofs.laws.words_and_bytes_have_one_output.Goals as goal

pub returns-clause-status : goal.returns-clause-status
returns-clause-status c words bytes text other s t first second = (one_output words bytes text other s t first second).0

pub returns-clause-text : goal.returns-clause-text
returns-clause-text c words bytes text other s t first second not_done = (one_output words bytes text other s t first second).1 not_done
