use Rattle.std.proofs.Common.{ap}
use Rattle.mt_stream.specs.Lines.{Takes, tells_of}
use Rattle.mt_output.specs.Ports.{change, port}
use Rattle.mt_replay.specs.Running.{StandsAt}
use Rattle.mt_replay.proofs.RunningLaws.{at_point}
use Rattle.mt_replay.proofs.running.fn.replay_with.take.Goals as goal

pub returns : goal.returns
returns g c = record {
  bytes = λ so_far was stands.
      at_point was stands.1 so_far stands.0
      (λ here. Takes (StandsAt c.take_line.new.run) here (change c.args.writer.now c.take_line.new.writer) (port g.K.Sink.taken c.args.sink.now c.take_line.new.sink) c.take_line.result)
      c.args.line.now.number c.args.line.now.bytes.now stands.4 (c.take_line.ensures.bytes stands.1 so_far stands.0 stands.2 stands.3);
  asks = λ so_far was stands wants. (stands.0, ap tells_of stands.4, c.take_line.ensures.asks stands.0 stands.2 wants);
  asks_stay = λ told number other asked. asked;
  ready = c.take_line.ensures.eras;
  cause = c.take_line.ensures.cause;
}
