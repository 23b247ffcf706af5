use Rattle.mt_import_laws.proofs.Spare.{without}
use Rattle.mt_import_laws.proofs.laws.lines_that_match_nothing_may_be_left_out.Goals as goal

pub returns : goal.returns
returns c = without
