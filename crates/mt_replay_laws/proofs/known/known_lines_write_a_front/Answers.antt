use Rattle.mt_replay_laws.proofs.KnownLines.{known_write_front}
use Rattle.mt_replay_laws.proofs.known.known_lines_write_a_front.Goals as goal

pub returns : goal.returns
returns c = known_write_front
