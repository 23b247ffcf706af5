use Rattle.std.proofs.Common.{◌≡◌}
use Rattle.mt_rendezvous.specs.Plays.{IsWaiting}
use Rattle.mt_rendezvous.specs.declared.view.Added.TheVariants.{Once}
use Rattle.mt_rendezvous.specs.InStation.{CarriesIn}
use Rattle.mt_rendezvous.proofs.station.Pass.wait_first.Given as goal

abbrev pub invariant-loop : goal.invariant-loop
invariant-loop g l = record { carries : CarriesIn l.station l.self l.cpu Once; waits : IsWaiting l.cpu.phase; cpu : l.cpu ≡ l.initial.cpu; number : l.self.number ≡ l.initial.self.number; shown : l.self.shown ≡ l.initial.self.shown }
