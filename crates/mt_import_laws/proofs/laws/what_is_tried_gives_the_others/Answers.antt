use Rattle.mt_import_laws.proofs.Missing.{values_named}
use Rattle.mt_import_laws.proofs.laws.what_is_tried_gives_the_others.Goals as goal

pub returns : goal.returns
returns c = values_named
