use Rattle.std.proofs.Common.{◌++◌, subst, ap, [], append-nil, Err}
use Rattle.mt_ports.specs.Puts.{AppendsFront}
use Rattle.mt_ports.specs.declared.status.Failed.{Failed}
use Rattle.mt_output.proofs.Writing.{adds_after}
use Rattle.mt_stream.proofs.running.close.Goals as goal

pub returns-in-Err-flush-clause-bytes : goal.returns-in-Err-flush-clause-bytes
returns-in-Err-flush-clause-bytes g c =
    subst (AppendsFront (g.K.Sink.taken c.args.sink.now) (g.K.Sink.taken c.flush.new.sink)) (ap (λ l. c.args.writer.now ++ l) (append-nil c.args.text.now))
    (adds_after {T = Unit {0}} {E = Failed} c.args.writer.now c.args.text.now c.write.new.self [] c.flush.new.self (g.K.Sink.taken c.args.sink.now) (g.K.Sink.taken c.write.new.sink) (g.K.Sink.taken c.flush.new.sink) (Err c.in-Err-flush.failed) c.in_default.ensures.bytes c.in-Err-flush.ensures.bytes)
