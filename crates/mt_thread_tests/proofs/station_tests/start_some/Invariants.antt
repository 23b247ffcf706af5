use Rattle.mt_rendezvous.specs.InStation.{AllNewIn}
use Rattle.mt_thread_tests.proofs.station_tests.start_some.Given as goal

abbrev pub invariant-loop : goal.invariant-loop
invariant-loop g l = AllNewIn l.shared.station l.waiting.items
