use Rattle.mt_laws.proofs.Barrier.Acting.{no_buffers_at_pass}
use Rattle.mt_machine_laws.proofs.run_laws.settled.no_buffers_at_pass.Goals as goal

pub returns : goal.returns
returns c = no_buffers_at_pass
