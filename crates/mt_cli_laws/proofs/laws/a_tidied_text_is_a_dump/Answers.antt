use Rattle.mt_cli_laws.proofs.CommentLines.{tidied_shown}
use Rattle.mt_cli_laws.proofs.laws.a_tidied_text_is_a_dump.Goals as goal

pub returns : goal.returns
returns c = λ used small. tidied_shown used _ small c.a_register_file_is_shown_by_its_text.ensures
