use Rattle.mt_import_laws.proofs.InteltoolTable.{reads}
use Rattle.mt_import_laws.proofs.printers.what_inteltool_prints_reads_back.Goals as goal

pub returns : goal.returns
returns c = reads
