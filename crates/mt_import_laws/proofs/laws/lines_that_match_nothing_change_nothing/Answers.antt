use Rattle.mt_import_laws.proofs.Alike.{alike_logs}
use Rattle.mt_import_laws.proofs.laws.lines_that_match_nothing_change_nothing.Goals as goal

pub returns : goal.returns
returns c = alike_logs
