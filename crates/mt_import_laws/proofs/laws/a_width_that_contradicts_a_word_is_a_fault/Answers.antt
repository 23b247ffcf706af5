use Rattle.mt_import_laws.proofs.Widths.{width_differs}
use Rattle.mt_import_laws.proofs.laws.a_width_that_contradicts_a_word_is_a_fault.Goals as goal

pub returns : goal.returns
returns c = width_differs
