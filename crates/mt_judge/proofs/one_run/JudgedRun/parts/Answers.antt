use Rattle.mt_case.specs.declared.case.Part.TheVariants as part
use Rattle.mt_procedure.specs.declared.turn.Turn.TheVariants.{Step}
use Rattle.mt_judge.proofs.Courses.{order_on}
use Rattle.mt_judge.proofs.one_run.JudgedRun.parts.Goals as goal

pub loop-part-preserved : goal.loop-part-preserved
loop-part-preserved c =
    order_on c.args.case.now c.args.order.now c.loop-part.part-index (part.Turn (Step 0)) c.args.self.now c.loop-part.self c.part.new.self c.loop-part-test.true c.loop-part.invariant c.in_ok-part.ensures
