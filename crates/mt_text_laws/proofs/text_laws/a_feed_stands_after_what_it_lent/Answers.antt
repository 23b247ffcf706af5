use Rattle.mt_text.proofs.Fronts.{place_of_front}
use Rattle.mt_text_laws.proofs.text_laws.a_feed_stands_after_what_it_lent.Goals as goal

pub returns : goal.returns
returns c = place_of_front
