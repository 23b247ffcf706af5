use Rattle.mt_text.proofs.Fronts.{seen_tells}
use Rattle.mt_text_laws.proofs.text_laws.seen_bytes_tell_the_front.Goals as goal

pub returns : goal.returns
returns c = seen_tells
