use Rattle.mt_tidy.specs.Tidied.{tidying}
use Rattle.mt_mend.proofs.Settling.{placed}
use Rattle.mt_mend.proofs.settled.mend_in_place.Goals as goal

pub returns-in-Ok-clause-ok : goal.returns-in-Ok-clause-ok
returns-in-Ok-clause-ok c =
    placed (tidying c.args.f.now c.args.chunk c.args.spare) c.args.wishes.now c.in_ok-start.start c.in_ok-start.ensures.ok c.in-Ok.new c.in-Ok.ensures.ok
    c.settled.result c.settled.ensures
