use Rattle.mt_import_laws.proofs.Alone.{alone_reads}
use Rattle.mt_import_laws.proofs.laws.a_table_is_read_alone.Goals as goal

pub returns : goal.returns
returns c = alone_reads
