use Rattle.std.proofs.Common.{◌≡◌, [], false}
use Rattle.mt_judge.specs.Ordered.{steps_below}
use Rattle.mt_judge.specs.Told.{IsTold}
use Rattle.mt_judge.proofs.one_run.JudgedRun.round.Given as goal

abbrev pub invariant-loop-k : goal.invariant-loop-k
invariant-loop-k l = record {
  told : IsTold l.case (steps_below l.case l.fn.self.state l.k) l.fn.self l.self;
  idle : l.goes_on ≡ false → steps_below l.case l.fn.self.state l.k ≡ [];
}
