use Rattle.mt_import_laws.proofs.Missing.{missing_named}
use Rattle.mt_import_laws.proofs.laws.what_is_missing_is_named.Goals as goal

pub returns : goal.returns
returns c = missing_named
