use Rattle.mt_text_laws.proofs.Moving.{moves_exactly}
use Rattle.mt_text_laws.proofs.script_laws.processors_move_by_their_lines.Goals as goal

pub returns : goal.returns
returns c = moves_exactly
