use Rattle.mt_cli_laws.proofs.SomeOutput.{some_output}
use Rattle.mt_cli_laws.proofs.laws.words_and_bytes_have_an_output.Goals as goal

pub returns : goal.returns
returns c = some_output
