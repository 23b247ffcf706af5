use Rattle.mt_procedure.specs.declared.turn.Turn.TheVariants.{Step}
use Rattle.mt_judge.proofs.Courses.{path_none, path_on}
use Rattle.mt_judge.proofs.one_run.JudgedRun.path.Goals as goal

pub loop-turn-init : goal.loop-turn-init
loop-turn-init c = λ runs. path_none c.args.case.now c.args.path.now c.args.self.now

pub loop-turn-preserved : goal.loop-turn-preserved
loop-turn-preserved c = λ runs.
    path_on c.args.case.now c.args.path.now c.loop-turn.turn-index (Step 0) c.args.self.now c.loop-turn.self c.turn.new.self c.loop-turn-test.true runs (c.loop-turn.invariant runs) c.in_ok-turn.ensures.told
