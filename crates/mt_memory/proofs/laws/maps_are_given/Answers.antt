use Rattle.mt_memory.proofs.Origins.{maps_are_given}
use Rattle.mt_memory.proofs.laws.maps_are_given.Goals as goal

pub returns : goal.returns
returns c = maps_are_given
