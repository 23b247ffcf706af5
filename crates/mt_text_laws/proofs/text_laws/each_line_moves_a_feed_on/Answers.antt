use Rattle.mt_text.proofs.Lent.{moves_on}
use Rattle.mt_text_laws.proofs.Ends.{falls}
use Rattle.mt_text_laws.proofs.text_laws.each_line_moves_a_feed_on.Goals as goal

pub returns : goal.returns
returns c = record { moves = moves_on; falls = falls }
