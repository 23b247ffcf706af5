use Rattle.mt_import_laws.proofs.Taken.{auto_comes, auto_comes_of_tables}
use Rattle.mt_import_laws.proofs.laws.auto_comes_to_that_format.Goals as goal

pub returns : goal.returns
returns c = record { all = auto_comes; tables = auto_comes_of_tables }
