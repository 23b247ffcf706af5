use Rattle.mt_text.proofs.Order.{words_stand_in_order}
use Rattle.mt_text_laws.proofs.text_laws.words_stand_in_order.Goals as goal

pub returns : goal.returns
returns c = words_stand_in_order
