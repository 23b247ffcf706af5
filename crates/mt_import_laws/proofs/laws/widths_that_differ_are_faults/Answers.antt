use Rattle.mt_import_laws.proofs.Widths.{widths_differ}
use Rattle.mt_import_laws.proofs.laws.widths_that_differ_are_faults.Goals as goal

pub returns : goal.returns
returns c = widths_differ
