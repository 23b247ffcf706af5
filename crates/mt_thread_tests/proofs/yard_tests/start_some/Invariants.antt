use Rattle.mt_private.specs.InYard.{AreGatheredIn}
use Rattle.mt_thread_tests.proofs.yard_tests.start_some.Given as goal

abbrev pub invariant-loop : goal.invariant-loop
invariant-loop g l = AreGatheredIn l.shared.yard l.waiting.items
