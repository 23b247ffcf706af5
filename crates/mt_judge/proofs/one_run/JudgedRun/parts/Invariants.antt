use Rattle.std.proofs.Common.{take}
use Rattle.mt_judge.specs.Told.{IsToldOrder}
use Rattle.mt_judge.proofs.one_run.JudgedRun.parts.Given as goal

abbrev pub invariant-loop-part : goal.invariant-loop-part
invariant-loop-part l = IsToldOrder l.case (take l.part-index l.order) l.fn.self l.self
