use Rattle.mt_flat.proofs.Seeing.{no_buffers_is_flat, start_is_flat}
use Rattle.mt_flat.proofs.laws.starts_are_flat.Goals as goal

pub returns-clause-start : goal.returns-clause-start
returns-clause-start c = start_is_flat

pub returns-clause-no_buffers : goal.returns-clause-no_buffers
returns-clause-no_buffers c = no_buffers_is_flat
