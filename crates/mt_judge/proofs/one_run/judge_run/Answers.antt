use Rattle.mt_judge.proofs.Courses.{order_told}
use Rattle.mt_judge.proofs.one_run.judge_run.Goals as goal

pub returns-clause-told : goal.returns-clause-told
returns-clause-told c =
    let told = order_told c.args.case.now c.args.start.now c.args.order.now c.in_ok-run.run' c.parts.new.self c.note_ends.new.self.told.items c.in_ok-run.ensures.state c.in_ok-run.ensures.told c.in_ok-parts.ensures
    c.in_ok-note_ends.ensures.told in
    record { runs = told.0; start = c.in_ok-wrongs.ensures.list; told = told.1 }
