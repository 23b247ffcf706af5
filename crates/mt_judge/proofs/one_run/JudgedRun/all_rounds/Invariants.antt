use Rattle.std.proofs.Common.{◌-◌, ◌≤◌}
use Rattle.mt_judge.specs.Ordered.{rounds}
use Rattle.mt_judge.specs.Told.{IsTold}
use Rattle.mt_judge.proofs.one_run.JudgedRun.all_rounds.Given as goal

abbrev pub invariant-loop-count : goal.invariant-loop-count
invariant-loop-count l = record {
  told : IsTold l.case (rounds l.case l.fn.self.state l.count) l.fn.self l.self;
  few : l.count ≤ 1099511627776;
}

abbrev pub decreases-loop-count : goal.decreases-loop-count
decreases-loop-count l = 1099511627776 - l.count
