use Rattle.mt_output.proofs.Writing.{front_of_longer}
use Rattle.mt_import.proofs.Puts.{puts_both}
use Rattle.mt_import.proofs.writing.put_both.Goals as goal

pub returns-in-Ok-clause-bytes : goal.returns-in-Ok-clause-bytes
returns-in-Ok-clause-bytes g c = puts_both c.args.first.now c.args.second.now _ _ _ c.put-in-Ok.result c.in-Ok.ensures.bytes c.put-in-Ok.ensures.bytes

pub returns-in-Err-clause-bytes : goal.returns-in-Err-clause-bytes
returns-in-Err-clause-bytes g c = front_of_longer c.args.first.now c.args.second.now _ _ c.in-Err.ensures.bytes
