use Rattle.mt_tidy.proofs.OwnRuns.{accepted_by}
use Rattle.mt_tidy.proofs.tidying.check_runs.Goals as goal

pub returns-then-are_defined-clause-ok : goal.returns-then-are_defined-clause-ok
returns-then-are_defined-clause-ok c =
    accepted_by c.args.f.now c.args.runs.now c.requires.map c.requires.enabled c.requires.checked (c.are_defined.ensures.0 c.if-are_defined.true)
