use Rattle.mt_memory.proofs.Origins.{maps_are_shown}
use Rattle.mt_memory.proofs.laws.maps_are_shown_by_lines.Goals as goal

pub returns : goal.returns
returns c = maps_are_shown
