use Rattle.std.proofs.Common.{◌≡◌}
use Rattle.mt_machine.specs.System.{System}
use Rattle.mt_private.specs.InYard.{HasArrivedAgain, done_of}
use Rattle.mt_private.proofs.visiting.YardPass.wait_second.Given as goal

abbrev pub invariant-loop : goal.invariant-loop
invariant-loop g l = record {
  arrived : (first : System) → HasArrivedAgain l.yard l.fn.self l.fn.core first → HasArrivedAgain l.yard l.self l.core first;
  number : l.self.number ≡ l.fn.self.number;
  done : done_of l.self ≡ done_of l.fn.self;
}
