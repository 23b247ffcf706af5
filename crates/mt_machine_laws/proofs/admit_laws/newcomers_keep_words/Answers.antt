use Rattle.mt_machine_laws.proofs.Agreeing.{newcomers_keep_words}
use Rattle.mt_machine_laws.proofs.admit_laws.newcomers_keep_words.Goals as goal

pub returns : goal.returns
returns c = newcomers_keep_words
