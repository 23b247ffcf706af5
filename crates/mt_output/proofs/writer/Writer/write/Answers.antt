use Rattle.std.proofs.Common.{[]}
use Rattle.std.proofs.lemmas.Result.{err_from_is_err_and}
use Rattle.mt_output.proofs.Writing.{fails_longer}
use Rattle.mt_output.proofs.writer.Writer.write.Goals as goal

pub returns-in_err-flush-clause-bytes : goal.returns-in_err-flush-clause-bytes
returns-in_err-flush-clause-bytes g c =
    let p = err_from_is_err_and c.from_residual.result c.from_residual.ensures.1 in
    rw p.1 (fails_longer c.args.self.now [] c.args.text.now _ _ c.in_err-flush.ensures.bytes)
