use Rattle.mt_import_laws.proofs.Notes.{assumed_noted}
use Rattle.mt_import_laws.proofs.laws.assumed_values_are_noted.Goals as goal

pub returns : goal.returns
returns c = assumed_noted
