use Rattle.mt_import_laws.proofs.Dumps.{origins}
use Rattle.mt_import_laws.proofs.laws.values_have_origins.Goals as goal

pub returns : goal.returns
returns c = origins
