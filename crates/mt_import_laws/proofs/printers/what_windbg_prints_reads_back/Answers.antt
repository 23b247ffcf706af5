use Rattle.mt_import_laws.proofs.RowTables.{windbg_back}
use Rattle.mt_import_laws.proofs.printers.what_windbg_prints_reads_back.Goals as goal

pub returns : goal.returns
returns c = windbg_back
