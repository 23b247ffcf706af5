use Rattle.mt_import_laws.proofs.KernelTable.{linux_reads}
use Rattle.mt_import_laws.proofs.printers.what_linux_prints_reads_back.Goals as goal

pub returns : goal.returns
returns c = linux_reads
