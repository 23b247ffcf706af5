use Rattle.mt_import_laws.proofs.Assumptions.{named_value}
use Rattle.mt_import_laws.proofs.laws.assumed_values_are_named.Goals as goal

pub returns : goal.returns
returns c = named_value
