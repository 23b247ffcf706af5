use Rattle.std.proofs.Common.{arith, inl, refl, [], append-nil}
use Rattle.std.proofs.KnownBytes.{Consumes-nil}
use Rattle.mt_stream.proofs.running.leave.Goals as goal

pub returns-in-Err-clause-bytes : goal.returns-in-Err-clause-bytes
returns-in-Err-clause-bytes g c =
    ([], Consumes-nil (g.S.Source.left c.args.source.now), omega arith, (omega arith, inl (refl, rw (append-nil c.args.writer.now) at c.in-Err.ensures.bytes)))
