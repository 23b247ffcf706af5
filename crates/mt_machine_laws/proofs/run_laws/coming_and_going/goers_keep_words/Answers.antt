use Rattle.mt_laws.proofs.Invariant.Going.{gone_keeps_words, others_stand}
use Rattle.mt_machine_laws.proofs.run_laws.coming_and_going.goers_keep_words.Goals as goal

pub returns-clause-words : goal.returns-clause-words
returns-clause-words c = gone_keeps_words

pub returns-clause-others : goal.returns-clause-others
returns-clause-others c = others_stand
