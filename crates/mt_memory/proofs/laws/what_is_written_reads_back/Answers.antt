use Rattle.mt_memory.proofs.MapReads.{written_reads_back}
use Rattle.mt_memory.proofs.laws.what_is_written_reads_back.Goals as goal

pub returns : goal.returns
returns c = written_reads_back
