use Rattle.mt_import_laws.proofs.Widths.{width_origin}
use Rattle.mt_import_laws.proofs.laws.widths_have_origins.Goals as goal

pub returns : goal.returns
returns c = width_origin
