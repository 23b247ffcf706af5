use Rattle.mt_import_laws.proofs.Edk2Table.{reads}
use Rattle.mt_import_laws.proofs.printers.what_edk2_prints_reads_back.Goals as goal

pub returns : goal.returns
returns c = reads
