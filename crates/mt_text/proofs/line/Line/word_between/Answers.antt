use Rattle.std.proofs.Common.{arith}
use Rattle.mt_text.proofs.WordSteps.{without_ending-length}
use Rattle.mt_text.proofs.line.Line.word_between.Goals as goal

pub overflow_add-result : goal.overflow_add-result
overflow_add-result c = let s = without_ending-length 13 c.args.self.now.bytes.now in let w = c.args.self.now.within in let f = c.type_inv.self in omega arith
