use Rattle.std.proofs.Common.{take}
use Rattle.mt_procedure.specs.Runs.{IsRun}
use Rattle.mt_judge.specs.Told.{IsTold}
use Rattle.mt_judge.proofs.one_run.JudgedRun.path.Given as goal

abbrev pub invariant-loop-turn : goal.invariant-loop-turn
invariant-loop-turn l = IsRun l.case l.fn.self.state l.path → IsTold l.case (take l.turn-index l.path) l.fn.self l.self
