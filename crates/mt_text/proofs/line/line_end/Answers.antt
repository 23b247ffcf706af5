use Rattle.mt_text.proofs.LineEnds.{first_byte}
use Rattle.mt_text.proofs.line.line_end.Goals as goal

pub returns : goal.returns
returns c = first_byte c.args.text.now c.memchr.result c.memchr.ensures
