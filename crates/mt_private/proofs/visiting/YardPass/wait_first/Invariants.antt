use Rattle.std.proofs.Common.{◌≡◌}
use Rattle.mt_machine.specs.System.{System}
use Rattle.mt_private.specs.InYard.{HasArrived, done_of}
use Rattle.mt_private.proofs.visiting.YardPass.wait_first.Given as goal

abbrev pub invariant-loop : goal.invariant-loop
invariant-loop g l = record {
  arrived : (first : System) → HasArrived l.yard l.fn.self l.fn.core first → HasArrived l.yard l.self l.core first;
  number : l.self.number ≡ l.fn.self.number;
  done : done_of l.self ≡ done_of l.fn.self;
}
