use Rattle.mt_import_laws.proofs.Alone.{reads_all}
use Rattle.mt_import_laws.proofs.laws.all_tables_are_read_without_the_word.Goals as goal

pub returns : goal.returns
returns c = reads_all
