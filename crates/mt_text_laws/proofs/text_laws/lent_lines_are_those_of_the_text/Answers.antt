use Rattle.mt_text.proofs.Lent.{counted, lends_lines}
use Rattle.mt_text_laws.proofs.text_laws.lent_lines_are_those_of_the_text.Goals as goal

pub returns : goal.returns
returns c = record { lines = lends_lines; counted = counted }
