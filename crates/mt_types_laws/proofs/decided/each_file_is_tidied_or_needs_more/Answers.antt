use Rattle.mt_types_laws.proofs.SomeTidy.{tidy_or_more}
use Rattle.mt_types_laws.proofs.decided.each_file_is_tidied_or_needs_more.Goals as goal

pub returns : goal.returns
returns c = tidy_or_more
