use Rattle.std.proofs.Common.{◌+◌, ap}
use Rattle.mt_stream.specs.Lines.{tells_of}
use Rattle.mt_proc.specs.Running.{HasCount}
use Rattle.mt_proc.proofs.RunningLaws.{goes_with}
use Rattle.mt_proc.proofs.running.fn.proc_with.take.Goals as goal

pub returns : goal.returns
returns g c = record {
  bytes = c.take_line.ensures.bytes;
  asks = λ so_far was stands wants. (stands.0, ap tells_of stands.3, c.take_line.ensures.asks stands.0 stands.1 wants);
  asks_stay = λ told number other asked. asked;
  ready = λ most ready. goes_with (HasCount (most + 1) c.take_line.new.run) _ c.take_line.result ready.1 (c.take_line.ensures.counts most ready.0);
  cause = c.take_line.ensures.cause;
}
