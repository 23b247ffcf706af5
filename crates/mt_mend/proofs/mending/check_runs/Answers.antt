use Rattle.mt_mend.proofs.Granted.{undefined_at}
use Rattle.mt_mend.proofs.mending.check_runs.Goals as goal

pub returns-in-Some-clause-err : goal.returns-in-Some-clause-err
returns-in-Some-clause-err c = λ wishes chunk spare ready are.
    let at = undefined_at c.args.f.now wishes c.args.runs.now are c.in-Some.page c.in-Some.ensures.some in
    record { ready = ready; within = at.0; undefined = at.1; before = at.2 }
