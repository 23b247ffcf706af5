use Rattle.mt_import_laws.proofs.FixedLines.{fixed_lines_contradict}
use Rattle.mt_import_laws.proofs.laws.lines_on_fixed_ranges_agree.Goals as goal

pub returns : goal.returns
returns c = fixed_lines_contradict
