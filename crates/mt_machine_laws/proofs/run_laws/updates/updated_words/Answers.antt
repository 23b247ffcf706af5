use Rattle.mt_laws.proofs.Updates.UpdatedWords.{updated_words}
use Rattle.mt_machine_laws.proofs.run_laws.updates.updated_words.Goals as goal

pub returns : goal.returns
returns c = updated_words
