use Rattle.mt_import_laws.proofs.Counts.{pairs_counted}
use Rattle.mt_import_laws.proofs.laws.enabled_pairs_are_counted.Goals as goal

pub returns : goal.returns
returns c = pairs_counted
