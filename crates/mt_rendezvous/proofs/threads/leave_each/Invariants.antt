use Rattle.std.proofs.Common.{◌≡◌, ◌++◌, drop, map, take}
use Rattle.mt_rendezvous.specs.Update.{running}
use Rattle.mt_rendezvous.proofs.threads.leave_each.Given as goal

abbrev pub invariant-loop-i : goal.invariant-loop-i
invariant-loop-i l = (take l.i l.cpus ++ map running (drop l.i l.cpus) ≡ map running l.fn.cpus) × (drop l.i l.cpus ≡ drop l.i l.fn.cpus)
