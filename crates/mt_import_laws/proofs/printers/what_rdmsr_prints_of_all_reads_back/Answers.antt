use Rattle.mt_import_laws.proofs.RdmsrAll.{reads}
use Rattle.mt_import_laws.proofs.printers.what_rdmsr_prints_of_all_reads_back.Goals as goal

pub returns : goal.returns
returns c = reads
