use Rattle.std.proofs.Common.{◌≡◌, true}
use Rattle.mt_machine.specs.declared.phase.Phase.{Phase}
use Rattle.mt_machine.specs.System.{System}
use Rattle.mt_machine.specs.Machine.{is_changing}
use Rattle.mt_private.specs.InYard.{IsBetween, done_of}
use Rattle.mt_private.specs.YardCalls.{AreIn}
use Rattle.mt_private.proofs.Nearer.{steps_left}
use Rattle.mt_private.proofs.visiting.YardPass.work_all.Given as goal

abbrev pub invariant-loop-core : goal.invariant-loop-core
invariant-loop-core l = record {
  between : (first : System) → IsBetween l.yard l.initial.self l.initial.core first → IsBetween l.yard l.self l.core first;
  phase : (ph : Phase) × AreIn ph l.core.system × (is_changing ph ≡ true);
  number : l.self.number ≡ l.initial.self.number;
  done : done_of l.self ≡ done_of l.initial.self;
}

abbrev pub decreases-loop-core : goal.decreases-loop-core
decreases-loop-core l = steps_left l.core.system.processors
