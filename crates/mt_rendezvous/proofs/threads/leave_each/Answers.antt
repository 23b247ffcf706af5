use Rattle.mt_rendezvous.proofs.Running.{taken_at}
use Rattle.mt_rendezvous.proofs.threads.leave_each.Goals as goal

pub leave-requires : goal.leave-requires
leave-requires c = taken_at c.loop-i.i c.loop-i.cpus c.args.cpus.now c.index-cpus-i.result c.loop-i.invariant.1 c.requires c.loop-i-test.true
