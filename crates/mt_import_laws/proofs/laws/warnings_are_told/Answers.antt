use Rattle.mt_import_laws.proofs.Warnings.{warned_of, warnings_told}
use Rattle.mt_import_laws.proofs.laws.warnings_are_told.Goals as goal

pub returns : goal.returns
returns c = record { told = warnings_told; read = warned_of }
