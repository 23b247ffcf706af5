use Rattle.mt_import_laws.proofs.X86infoAll.{reads}
use Rattle.mt_import_laws.proofs.printers.what_x86info_prints_of_all_reads_back.Goals as goal

pub returns : goal.returns
returns c = reads
