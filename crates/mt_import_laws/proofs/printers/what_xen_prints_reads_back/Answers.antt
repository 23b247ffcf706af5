use Rattle.mt_import_laws.proofs.KernelTable.{xen_reads}
use Rattle.mt_import_laws.proofs.printers.what_xen_prints_reads_back.Goals as goal

pub returns : goal.returns
returns c = xen_reads
