use Rattle.mt_import_laws.proofs.FixedRanges.{fixed_word_contradictions}
use Rattle.mt_import_laws.proofs.laws.a_word_without_fix_is_a_fault.Goals as goal

pub returns : goal.returns
returns c = fixed_word_contradictions
