use Rattle.mt_import_laws.proofs.Faults.{word_contradictions}
use Rattle.mt_import_laws.proofs.laws.words_that_contradict_are_faults.Goals as goal

pub returns : goal.returns
returns c = word_contradictions
