use Rattle.mt_import_laws.proofs.CorebootTable.{reads}
use Rattle.mt_import_laws.proofs.printers.what_coreboot_displays_reads_back.Goals as goal

pub returns : goal.returns
returns c = reads
