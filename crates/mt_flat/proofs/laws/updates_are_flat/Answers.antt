use Rattle.mt_flat.proofs.Updating.{held_is_flat, updated_is_flat}
use Rattle.mt_flat.proofs.laws.updates_are_flat.Goals as goal

pub returns-clause-held : goal.returns-clause-held
returns-clause-held c = held_is_flat

pub returns-clause-outright : goal.returns-clause-outright
returns-clause-outright c = updated_is_flat
