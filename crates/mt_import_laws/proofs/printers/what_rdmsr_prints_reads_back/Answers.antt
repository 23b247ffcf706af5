use Rattle.mt_import_laws.proofs.RdmsrTable.{own_text}
use Rattle.mt_import_laws.proofs.printers.what_rdmsr_prints_reads_back.Goals as goal

pub returns : goal.returns
returns c = own_text
