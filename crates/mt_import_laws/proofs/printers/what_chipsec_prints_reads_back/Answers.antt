use Rattle.mt_import_laws.proofs.RowTables.{chipsec_back}
use Rattle.mt_import_laws.proofs.printers.what_chipsec_prints_reads_back.Goals as goal

pub returns : goal.returns
returns c = chipsec_back
