use Rattle.mt_import_laws.proofs.Lines.{readings_of_lines}
use Rattle.mt_import_laws.proofs.laws.readings_come_from_lines.Goals as goal

pub returns : goal.returns
returns c = readings_of_lines
