use Rattle.mt_import_laws.proofs.Taken.{takes_most}
use Rattle.mt_import_laws.proofs.laws.auto_takes_the_most.Goals as goal

pub returns : goal.returns
returns c = takes_most
