use Rattle.mt_core.proofs.Settling.{held_from_first_release, no_buffers_where_one_passes}
use Rattle.mt_machine_laws.proofs.core_laws.words_are_held.Goals as goal

pub returns-clause-held : goal.returns-clause-held
returns-clause-held c = held_from_first_release

pub returns-clause-buffers : goal.returns-clause-buffers
returns-clause-buffers c = no_buffers_where_one_passes
