use Rattle.mt_text.proofs.Fronts.{ended_front, last_front, long_front}
use Rattle.mt_text_laws.proofs.text_laws.a_front_is_the_next_line.Goals as goal

pub returns : goal.returns
returns c = record { ended = ended_front; last = last_front; long = long_front }
