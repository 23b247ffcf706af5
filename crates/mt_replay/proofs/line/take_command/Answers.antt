use Rattle.std.proofs.Common.{rules, ◌≡◌, subst, Ok, Err}
use Rattle.mt_stream.specs.declared.ending.Stop.TheVariants.{BadText, NoMemory}
use Rattle.mt_script.specs.Lines.{offence_line}
use Rattle.mt_script.specs.Accept.{Fits}
use Rattle.mt_script.specs.Situation.{Situation}
use Rattle.mt_script.specs.Commands.{command_of}
use Rattle.mt_script.specs.declared.fault.Offence.TheVariants.{Script}
use Rattle.mt_replay.specs.Running.{StandsAt, line_at}
use Rattle.mt_output.specs.Ports.{change, port}
use Rattle.mt_replay.specs.Transcript.{in_body}
use Rattle.mt_replay.proofs.Taking.{command_eras, command_takes, fault_leads}
use Rattle.mt_stream.proofs.Taking.{takes_last}
use Rattle.mt_replay.proofs.Sums.Last.{command_lasts, fault_lasts, last_told}
use Rattle.mt_replay.specs.declared.line.Run.TheVariants as run
use Rattle.mt_replay.proofs.line.take_command.Goals as goal

pub returns-in-Ok-clause-bytes : goal.returns-in-Ok-clause-bytes
returns-in-Ok-clause-bytes g c = λ came so_far quiet.
    let is : command_of c.args.replayer.now.now c.args.line.now.number c.args.line.now.bytes.now ≡ Ok c.in-Ok.command = search rules in
    let fits : Fits c.args.replayer.now.now c.in-Ok.command = subst (λ (now : Situation). Fits now c.in-Ok.command) c.setup.ensures c.in-Ok.ensures.fits in
    command_takes c.args.replayer.now c.do_command.new.replayer c.in-Ok.command c.args.line.now.number c.args.line.now.bytes.now c.is_replay_state.ensures fits is
    (change c.args.writer.now c.do_command.new.writer) (port g.K.Sink.taken c.args.sink.now c.do_command.new.sink) c.do_command.result c.do_command.ensures.bytes c.do_command.ensures.asks came so_far quiet

pub returns-in-Ok-clause-eras : goal.returns-in-Ok-clause-eras
returns-in-Ok-clause-eras g c = λ most eras.
    let is : command_of c.args.replayer.now.now c.args.line.now.number c.args.line.now.bytes.now ≡ Ok c.in-Ok.command = search rules in
    let fits : Fits c.args.replayer.now.now c.in-Ok.command = subst (λ (now : Situation). Fits now c.in-Ok.command) c.setup.ensures c.in-Ok.ensures.fits in
    command_eras c.args.replayer.now c.do_command.new.replayer c.in-Ok.command c.args.line.now.number c.args.line.now.bytes.now c.is_replay_state.ensures fits is most
    (change c.args.writer.now c.do_command.new.writer) (port g.K.Sink.taken c.args.sink.now c.do_command.new.sink) c.do_command.result eras c.do_command.ensures.bytes

pub returns-in-Err-clause-bytes : goal.returns-in-Err-clause-bytes
returns-in-Err-clause-bytes g c = λ came so_far quiet.
    let is : command_of c.args.replayer.now.now c.args.line.now.number c.args.line.now.bytes.now ≡ Err c.in-Err.fault = search rules in
    takes_last (StandsAt (run.Body c.args.replayer.now)) (line_at came so_far c.args.line.now.number c.args.line.now.bytes.now (in_body c.args.replayer.now)) (offence_line (Script c.in-Err.fault)) (change c.args.writer.now c.tell_offence.new.writer)
    (port g.K.Sink.taken c.args.sink.now c.tell_offence.new.sink) BadText c.tell_offence.result (fault_leads c.args.replayer.now c.args.line.now.number c.args.line.now.bytes.now c.in-Err.fault is) (λ is. cc is)
    c.tell_offence.ensures.bytes c.tell_offence.ensures.stop

pub returns-in-Ok-clause-last : goal.returns-in-Ok-clause-last
returns-in-Ok-clause-last g c =
    let is : command_of c.args.replayer.now.now c.args.line.now.number c.args.line.now.bytes.now ≡ Ok c.in-Ok.command = search rules in
    let fits : Fits c.args.replayer.now.now c.in-Ok.command = subst (λ (now : Situation). Fits now c.in-Ok.command) c.setup.ensures c.in-Ok.ensures.fits in
    command_lasts c.args.replayer.now c.do_command.new.replayer c.in-Ok.command c.args.line.now.number c.args.line.now.bytes.now c.is_replay_state.ensures fits is
    (change c.args.writer.now c.do_command.new.writer) (port g.K.Sink.taken c.args.sink.now c.do_command.new.sink) c.do_command.result c.do_command.ensures.bytes

pub returns-in-Err-clause-last : goal.returns-in-Err-clause-last
returns-in-Err-clause-last g c =
    let is : command_of c.args.replayer.now.now c.args.line.now.number c.args.line.now.bytes.now ≡ Err c.in-Err.fault = search rules in
    last_told c.args.line.now.number c.args.line.now.bytes.now (in_body c.args.replayer.now) (run.Body c.args.replayer.now) BadText c.tell_offence.result c.tell_offence.ensures.stop
    (fault_lasts c.args.replayer.now c.args.line.now.number c.args.line.now.bytes.now c.in-Err.fault is)

pub returns-in-Ok-clause-asks : goal.returns-in-Ok-clause-asks
returns-in-Ok-clause-asks g c = λ wants.
    let is : command_of c.args.replayer.now.now c.args.line.now.number c.args.line.now.bytes.now ≡ Ok c.in-Ok.command = search rules in
    (c.in-Ok.command, is, c.do_command.ensures.asks NoMemory wants)

pub returns-in-Err-clause-asks : goal.returns-in-Err-clause-asks
returns-in-Err-clause-asks g c = λ wants. let e : NoMemory ≡ BadText = c.tell_offence.ensures.answer NoMemory wants in absurd (cc e)
