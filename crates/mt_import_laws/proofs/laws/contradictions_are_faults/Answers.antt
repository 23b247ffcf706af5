use Rattle.mt_import_laws.proofs.Faults.{contradictions}
use Rattle.mt_import_laws.proofs.laws.contradictions_are_faults.Goals as goal

pub returns : goal.returns
returns c = contradictions
