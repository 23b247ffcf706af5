use Rattle.mt_mend.proofs.Settling.{good}
use Rattle.mt_mend.proofs.settled.is_as_good.Goals as goal

pub returns-in-None : goal.returns-in-None
returns-in-None c =
    good c.args.f.now c.args.new.now c.in-None.ensures c.valid_count.result c.changed_pages.result c.valid_count.ensures c.if-valid_count-new.false c.changed_pages.ensures
