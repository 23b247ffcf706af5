use Rattle.std.proofs.Common.{[]}
use Rattle.mt_output.proofs.Writing.{fails_longer}
use Rattle.mt_replay.specs.ReplayState.{command_text}
use Rattle.mt_replay.proofs.line.do_command.Goals as goal

pub returns-in-Err-clause-bytes : goal.returns-in-Err-clause-bytes
returns-in-Err-clause-bytes g c =
    fails_longer c.args.writer.now [] (command_text c.args.replayer.now c.args.c.now) (g.K.Sink.taken c.args.sink.now) (g.K.Sink.taken c.make_room.new.sink) c.in-Err.ensures.bytes
