use Rattle.mt_machine_laws.proofs.Updated.{updated_words_are_held, updates_settle}
use Rattle.mt_machine_laws.proofs.core_laws.updates_settle.Goals as goal

pub returns-clause-settled : goal.returns-clause-settled
returns-clause-settled c = updates_settle

pub returns-clause-held : goal.returns-clause-held
returns-clause-held c = updated_words_are_held
