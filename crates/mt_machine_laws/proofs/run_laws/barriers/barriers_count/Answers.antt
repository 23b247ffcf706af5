use Rattle.mt_laws.proofs.Barrier.Counts.{open_where_full}
use Rattle.mt_machine_laws.proofs.run_laws.barriers.barriers_count.Goals as goal

pub returns : goal.returns
returns c = open_where_full
