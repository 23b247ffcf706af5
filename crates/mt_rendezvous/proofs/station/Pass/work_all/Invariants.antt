use Rattle.std.proofs.Common.{◌≡◌}
use Rattle.mt_laws.proofs.Steps.Counts.{left_of}
use Rattle.mt_rendezvous.specs.InStation.{HasPassed}
use Rattle.mt_rendezvous.proofs.station.Pass.work_all.Given as goal

abbrev pub invariant-loop-self : goal.invariant-loop-self
invariant-loop-self l = record { passed : HasPassed l.station l.self l.cpu; number : l.self.number ≡ l.initial.self.number }

abbrev pub decreases-loop-self : goal.decreases-loop-self
decreases-loop-self l = left_of l.cpu
