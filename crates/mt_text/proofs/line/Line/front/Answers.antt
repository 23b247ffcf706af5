use Rattle.std.proofs.Common.{sym, take_all, arith}
use Rattle.mt_text.proofs.line.Line.front.Goals as goal

pub returns-then-self-le-LONGEST-clause-bytes : goal.returns-then-self-le-LONGEST-clause-bytes
returns-then-self-le-LONGEST-clause-bytes c = sym (take_all 4097 c.args.self.now.bytes.now (omega arith))
